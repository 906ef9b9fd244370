-- `divergence_sums::kl_pair` meets its contract: by `row_in`.
use lib.ListN.{length}
use Rattle.laws.proofs.Numbers.{row_in}
use borrow.Author.Tests.{eq-eqb, ne_eqb}
use Rattle.divergence_sums.specs.Sums.{kl_pair}
use native.Mathlib.Omega.{arith}
use Rattle.divergence_sums.proofs.kl_pair.Goals as goal

pub returns-then-i-j : goal.returns-then-i-j
unfolding kl_pair
returns-then-i-j c =
    rw (eq-eqb _ _ c.if-i-j.true)

pub overflow_mul-p : goal.overflow_mul-p
overflow_mul-p c =
    omega (
      arith,
      row_in c.args.i c.args.pairs.map.n c.args.pairs.map.n (length c.args.pairs.affinities.now) c.requires.0
          c.requires.2,
    )

pub overflow_add-p : goal.overflow_add-p
overflow_add-p c =
    omega (
      arith,
      row_in c.args.i c.args.pairs.map.n c.args.pairs.map.n (length c.args.pairs.affinities.now) c.requires.0
          c.requires.2,
      c.requires.1,
    )

pub offset_bounds-pairs-i : goal.offset_bounds-pairs-i
offset_bounds-pairs-i c =
    omega (
      arith,
      row_in c.args.i c.args.pairs.map.n c.args.pairs.map.n (length c.args.pairs.affinities.now) c.requires.0
          c.requires.2,
      c.requires.1,
    )

pub bounds-pairs-i : goal.bounds-pairs-i
bounds-pairs-i c =
    omega (
      arith,
      row_in c.args.i c.args.pairs.map.n c.args.pairs.map.n (length c.args.pairs.affinities.now) c.requires.0
          c.requires.2,
      c.requires.1,
    )

pub returns : goal.returns
unfolding kl_pair
returns c =
    rw (c.kl_term.ensures, ne_eqb _ _ c.if-i-j.false)
