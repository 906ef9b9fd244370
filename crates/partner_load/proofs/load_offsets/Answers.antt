use mathlib.Core.Path.{sym}
use Rattle.partner_load.proofs.Counted.{lists-start, lists-over, lists-next, lists-counted}
use Rattle.partner_load.specs.Loaded.{offsets_loaded}
use Rattle.areas.proofs.Fetched.{fetches-start, fetches-next, fetches-done}
use native.Mathlib.Omega.{arith}
use Rattle.partner_load.proofs.load_offsets.Goals as goal

pub loop-j-init : goal.loop-j-init
loop-j-init c =
    (fetches-start, lists-start _)

pub list_from-p-requires : goal.list_from-p-requires
list_from-p-requires c =
    c.loop-j.invariant.1.within

pub overflow_cast-offsets : goal.overflow_cast-offsets
overflow_cast-offsets c =
    omega (arith, c.list_from-p.ensures.1, c.requires.2)

pub bounds-offsets-j : goal.bounds-offsets-j
bounds-offsets-j c =
    omega (arith, c.requires.1, c.loop-j.invariant.0.size, c.loop-j-test.true)

pub loop-j-preserved : goal.loop-j-preserved
loop-j-preserved c = (
  rw (sym (lists-counted c.requires.3 (lists-over c.loop-j.invariant.1 c.list_from-p.ensures.0 c.list_from-p.ensures.1 c.list_from-p.ensures.2)
      c.list_from-p.ensures.3)) (fetches-next c.requires.1 (omega (arith, c.loop-j-test.true)) c.loop-j.invariant.0),
  lists-next
      (lists-over c.loop-j.invariant.1 c.list_from-p.ensures.0 c.list_from-p.ensures.1 c.list_from-p.ensures.2),
)

pub returns : goal.returns
unfolding offsets_loaded
returns c =
    fetches-done (omega (arith, c.loop-j-test.false)) c.loop-j.invariant.0
