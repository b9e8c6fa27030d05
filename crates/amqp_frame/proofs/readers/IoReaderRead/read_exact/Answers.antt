use Rattle.std.proofs.Common.{◌≡◌, ◌<◌, ◌-◌, length, inl, arith}
use Rattle.std.proofs.lemmas.Bool.Decides.{nat_tests}
use Rattle.std.proofs.lemmas.List.{length-set}
use Rattle.amqp_frame.proofs.Filled.{seen-first-ok, seen-takes, put-behind}
use Rattle.amqp_frame.proofs.readers.IoReaderRead.read_exact.Goals as goal

pub returns-clause-ok : goal.returns-clause-ok
returns-clause-ok g c =
    let some : 0 < length c.args.buf.now = grind (arith, nat_tests) in
    let same = length-set c.args.buf.now 0 c.in-Some.byte in
    let len : length c.fill-2.new.buf ≡ length c.args.buf.now - 1 = grind (arith, length-set) in
    rw (c.in-Some.is, put-behind _ _ _ some len)
    (seen-first-ok c.fill-2.result c.in-Some.byte (g.R.Read.remaining c.args.self.now.inner)
    (g.R.Read.remaining c.fill-2.new.inner) c.fill-2.new.buf c.fill-2.ensures.ok)

pub returns-clause-io : goal.returns-clause-io
returns-clause-io g c = λ e.
    let io = c.fill-2.ensures.io e in (
      rw c.in-Some.is (seen-takes c.in-Some.byte (g.R.Read.remaining c.args.self.now.inner)
          (g.R.Read.remaining c.fill-2.new.inner) io.0),
      inl io.1,
    )
