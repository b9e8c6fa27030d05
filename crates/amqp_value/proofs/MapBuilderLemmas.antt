-- Entries that are inserted in order, as trees.
use Rattle.std.proofs.Common.{◌≡◌, List, [], ◌∷◌, ◌++◌, if◌then◌else◌, is_ok, Result, Ok, Err, OnOk, refl, ap, ◌∙◌}
use Rattle.amqp_ser.specs.Tree.{Pairs, no_pairs}
use Rattle.amqp_value.specs.Image.{insert_tree}
use Rattle.amqp_value.specs.TreeOf.{tree_of}
use Rattle.amqp_value.specs.declared.value.Value.{Value}
use Rattle.amqp_value.specs.MapBuilder.{insert_all}

-- Inserting one more entry.
inserted_push : (es : List (Value × Value)) (e : Value × Value) (done : Pairs) → insert_all (es ++ e ∷ []) done ≡ insert_tree (insert_all es done) (tree_of e.0) (tree_of e.1)
inserted_push [] e done = refl
inserted_push (x ∷ es) e done = inserted_push es e (insert_tree done (tree_of x.0) (tree_of x.1))

pub pushed : {T E : Type 0} (r : Result T E) (old new : List (Value × Value)) (k v : Value) → new ≡ (if is_ok r then old ++ (k, v) ∷ [] else old)
    → OnOk r (insert_all new no_pairs ≡ insert_tree (insert_all old no_pairs) (tree_of k) (tree_of v))
pushed (Ok x) old new k v h = ap (λ es. insert_all es no_pairs) h ∙ inserted_push old (k, v) no_pairs
pushed (Err e) old new k v h = tt
