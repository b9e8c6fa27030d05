-- Adding a part to a compound.
use Rattle.std.specs.Prelude.{◌≡◌, ℕ, ◌+◌, Bool, true, ◌⊎◌, ◌<◌, ◌≤◌, Result, MatchResult, IfOk, IfErr, if◌then◌else◌}
use Rattle.amqp_size.specs.declared.size_error.SizeError.{SizeError}
use Rattle.amqp_size.specs.declared.size_error.SizeError.TheVariants as error
use Rattle.amqp_size.specs.Position.{prefix_len_of, is_array, is_gathered, limit_of}
use Rattle.amqp_size.specs.WholePosition.{Position}
use Rattle.amqp_size.specs.WholePosition.{FirstElement, OtherElement, Descriptor}
use Rattle.amqp_size.specs.WholeContext.{Context}
use Rattle.amqp_size.specs.WholeContext as context
use Rattle.amqp_size.specs.declared.open_compound.OpenCompound.{OpenCompound}
use Rattle.amqp_size.specs.declared.resolved_kind.ResolvedKind.TheVariants as resolved_kinds

-- The length of the constructor, which is counted at the first element.
abbrev pub constructor_len : Position → Position → ℕ
constructor_len FirstElement (OtherElement c) = 1
constructor_len p q = 0

-- The same in an array. Other compounds have no constructor.
abbrev pub constructor_len_in : Bool → Context → Context → ℕ
constructor_len_in true (context.Unmarked p) (context.Unmarked q) = constructor_len p q
constructor_len_in arr u v = 0

-- One more part exceeds a limit.
abbrev pub PassesLimit : Bool → ℕ → ℕ → Type 0
PassesLimit array count sum = (4294967291 < sum) ⊎ ((array ≡ true) × (4294967295 ≤ count))

-- Why no value is accepted after a descriptor of this length.
abbrev pub Undescribed : Context → ℕ → SizeError → Type 0
Undescribed (context.Unmarked Descriptor) n e = e ≡ error.InvalidValue
Undescribed (context.Unmarked p) n e = (e ≡ error.TooLong) × (18446744073709551615 < prefix_len_of p + (n + 1))
Undescribed u n e = ⊥

-- A part of this size is added, and `after` is the context after it; or it fails, and the compound
-- is unchanged.
pub record AddsPart (compound new : OpenCompound) (size : ℕ) (after : Context) (res : Result (Unit {0}) SizeError) : Type 0 where
  pub position : new.position ≡ compound.position
  pub resolved_kind : new.resolved_kind ≡ compound.resolved_kind
  pub few : compound.count ≤ 4294967295 → new.count ≤ 4294967295
  pub small : new.sum ≤ limit_of new.resolved_kind
  pub kept : IfErr res (λ _. new ≡ compound)
  pub before_last : is_gathered compound.resolved_kind ≡ true → IfOk res (λ _. new.before_last ≡ compound.sum)
  pub gathered : is_gathered compound.resolved_kind ≡ true → MatchResult res
      (λ _. (new.sum ≡ size + constructor_len_in (is_array compound.resolved_kind) compound.inner_context after + compound.sum)
      × ((new.count ≡ if is_array compound.resolved_kind then compound.count + 1 else compound.count)
      × (new.inner_context ≡ if is_array compound.resolved_kind then after else compound.inner_context)))
      (λ e. (e ≡ error.TooLong) × PassesLimit (is_array compound.resolved_kind) compound.count (size + constructor_len_in (is_array compound.resolved_kind) compound.inner_context after + compound.sum))
  pub transparent : compound.resolved_kind ≡ resolved_kinds.Transparent → MatchResult res
      (λ _. (new.sum ≡ size + compound.sum) × (new.inner_context ≡ compound.inner_context))
      (λ e. (e ≡ error.TooLong) × (18446744073709551615 < size + compound.sum))
  pub single : compound.resolved_kind ≡ resolved_kinds.Single → MatchResult res
      (λ _. (compound.count ≡ 0) × ((new.count ≡ 1) × ((new.sum ≡ size) × (new.inner_context ≡ after))))
      (λ e. (e ≡ error.InvalidValue) × (1 ≤ compound.count))
