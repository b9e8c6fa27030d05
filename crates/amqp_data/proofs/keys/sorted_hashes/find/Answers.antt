use Rattle.std.proofs.Common.{◌∙◌, ap}
use Rattle.amqp_data.specs.SortedHashes.{positions}
use Rattle.amqp_data.proofs.HashPlaces.{equal_among}
use Rattle.amqp_data.proofs.keys.sorted_hashes.find.Goals as goal

pub find_among-requires-clause-found : goal.find_among-requires-clause-found
find_among-requires-clause-found g c =
    equal_among g.K.PartialEq.eq g.K.Hash.hash_input c.args.places.now c.args.entries.now g.met.K.Hash.respects_eq c.requires.placed c.args.key.now c.positions.result.now
    (c.positions.ensures ∙ ap (positions c.args.places.now) c.requires.hash)
