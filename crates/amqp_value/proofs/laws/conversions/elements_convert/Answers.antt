use Rattle.amqp_data.specs.Items.{array_items}
use Rattle.amqp_value.specs.Contents.{array_in, list_in}
use Rattle.amqp_value.proofs.ConversionLaws.{converts_each}
use Rattle.amqp_value.proofs.laws.conversions.elements_convert.Goals as goal

pub returns-clause-lists : goal.returns-clause-lists
returns-clause-lists g c = converts_each list_in (λ list. list.items) (λ made. made.items) g.T.TryFrom.try_from_gives

pub returns-clause-arrays : goal.returns-clause-arrays
returns-clause-arrays g c = converts_each array_in array_items array_items g.T.TryFrom.try_from_gives
