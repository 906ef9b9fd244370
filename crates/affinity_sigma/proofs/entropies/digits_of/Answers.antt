-- `sigma::entropies::digits_of` meets its contract: both sides of the root of 2. Assumes nothing.
use Rattle.affinity_sigma.proofs.entropies.digits_of.Goals as goal

pub unit_of-m-requires : goal.unit_of-m-requires
unit_of-m-requires c =
    c.requires

pub returns-then-m : goal.returns-then-m
returns-then-m c =
    rw (c.unit_of-m.ensures, rw c.unit_of-m.ensures at c.if-m.true)

pub returns : goal.returns
returns c =
    rw (c.unit_of-m.ensures, rw c.unit_of-m.ensures at c.if-m.false)
