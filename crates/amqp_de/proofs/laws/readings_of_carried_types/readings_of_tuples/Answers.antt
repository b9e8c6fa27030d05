use Rattle.amqp_de.proofs.ReadingLaws.{no_more, one_more, of_fields}
use Rattle.amqp_de.proofs.laws.readings_of_carried_types.readings_of_tuples.Goals as goal

pub returns-clause-one : goal.returns-clause-one
returns-clause-one g c = of_fields (one_more g.A.Deserialize.reads c.args.one.now.0 no_more)

pub returns-clause-two : goal.returns-clause-two
returns-clause-two g c =
    let x = c.args.two.now in
    of_fields (one_more g.A.Deserialize.reads x.0 (one_more g.B.Deserialize.reads x.1 no_more))

pub returns-clause-three : goal.returns-clause-three
returns-clause-three g c =
    let x = c.args.three.now in
    of_fields (one_more g.A.Deserialize.reads x.0 (one_more g.B.Deserialize.reads x.1 (one_more g.C.Deserialize.reads x.2 no_more)))

pub returns-clause-four : goal.returns-clause-four
returns-clause-four g c =
    let x = c.args.four.now in
    of_fields (one_more g.A.Deserialize.reads x.0 (one_more g.B.Deserialize.reads x.1
    (one_more g.C.Deserialize.reads x.2 (one_more g.D.Deserialize.reads x.3 no_more))))
