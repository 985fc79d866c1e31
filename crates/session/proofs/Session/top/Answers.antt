-- top meets its contract. Assumes nothing.
use Prim.Native.Nat.{◌-◌}
use mathlib.Core.Path.{◌≡◌}
use native.Mathlib.Omega.{arith}
use Rattle.session.proofs.Values.{roomy, top_there}
use Rattle.session.proofs.Session.top.Goals as goal

pub returns : goal.returns
returns c = λ q.
    let r = roomy c.args.self.now q in
    let e : c.min.result ≡ c.args.self.now.count - 1 = omega (arith, r.some, r.few) in
    rw e (top_there c.args.self.now r.some)
