use Rattle.std.proofs.Common.{◌≡◌, []}
use Rattle.std.specs.HashMap.{IsFromIterResult}
use Rattle.indexmap.specs.IndexMap.{insert_all}
use Rattle.amqp_data.specs.Pairs.{entries_of}
use Rattle.amqp_value.specs.Converts.{inserted_in_order, inserted_sorted}
use Rattle.amqp_value.proofs.ConversionLaws.{converts_pairs}
use Rattle.amqp_value.proofs.laws.conversions.entries_convert.Goals as goal

pub returns-clause-ordered : goal.returns-clause-ordered
returns-clause-ordered g c = converts_pairs (λ done made. entries_of made ≡ inserted_in_order g.K.PartialEq.eq done) g.K.TryFrom.try_from_gives g.V.TryFrom.try_from_gives

pub returns-clause-sorted : goal.returns-clause-sorted
returns-clause-sorted g c = converts_pairs (λ done made. made.entries ≡ inserted_sorted g.K.Ord.cmp done) g.K.TryFrom.try_from_gives g.V.TryFrom.try_from_gives

pub returns-clause-indexed : goal.returns-clause-indexed
returns-clause-indexed g c = converts_pairs (λ done made. made.entries ≡ insert_all g.K.PartialEq.eq [] done) g.K.TryFrom.try_from_gives g.V.TryFrom.try_from_gives

pub returns-clause-hashed : goal.returns-clause-hashed
returns-clause-hashed g c = converts_pairs (λ done made. IsFromIterResult g.K.PartialEq.eq done made) g.K.TryFrom.try_from_gives g.V.TryFrom.try_from_gives
