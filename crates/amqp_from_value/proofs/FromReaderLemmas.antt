-- What is returned for bytes, from what is returned for the tree that they encode.
use Rattle.std.proofs.Common.{◌≡◌, inl, inr, ℕ, List, Option, subst}
use Rattle.std.specs.Io.KnownBytes.{Consumes}
use Rattle.amqp_data.specs.declared.error.Error.{Error}
use Rattle.amqp_data.specs.declared.error.Error.TheVariants as error
use Rattle.amqp_frame.specs.EncodedValue.{IsEncodedValue}
use Rattle.amqp_ser.specs.Tree.{Tree}
use Rattle.amqp_decode.specs.Encodes.{Encodes}
use Rattle.amqp_decode.proofs.Whole.{one-tree}
use Rattle.amqp_de.specs.Answers.{Refuses}
use Rattle.amqp_from_value.specs.FromReader.{RefusesNext}
use Rattle.amqp_de.specs.FromBytes.{ReadsEncoded}

abbrev pub IsMemory : Error → Type 0
IsMemory e = e ≡ error.OutOfMemory

-- bytes of a tree that is not read are not read
pub unread_by : {T E : Type 0} (Memory : E → Type 0) (R : Tree → T → Type 0) (bs : List ℕ) (e : E) (u : Tree) → Encodes 256 bs u
    → Refuses Memory (R u) e → Refuses Memory (ReadsEncoded R bs) e
unread_by Memory R bs e u sp (inl m) = inl m
unread_by Memory R bs e u sp (inr n) = inr (λ x r. n x (subst (λ v. R v x) (one-tree 256 256 bs r.0 u r.1 sp) r.2))

pub unread : {T : Type 0} (R : Tree → T → Type 0) (bs : List ℕ) (e : Error) (u : Tree) → Encodes 256 bs u
    → Refuses IsMemory (R u) e → Refuses IsMemory (ReadsEncoded R bs) e
unread = unread_by IsMemory

-- and not from a reader whose next encoded value has these bytes
pub refused_next : {T : Type 0} (R : Tree → T → Type 0) (old new : Option (List ℕ)) (before after : ℕ) (bs cs : List ℕ) (e : Error)
    → IsEncodedValue bs → Consumes old new bs → cs ≡ bs → Refuses IsMemory (λ x. ReadsEncoded R cs x) e → RefusesNext R old new before after e
refused_next R old new before after bs cs e encoded taken same refused =
    inr (bs, encoded, taken, subst (λ b. Refuses IsMemory (λ x. ReadsEncoded R b x) e) same refused)
