-- `replay_preparation::lists_case` meets its contract: from what its calls promise.
use borrow.Author.Rules.{rules}
use native.Mathlib.Omega.{arith}
use Rattle.replay_preparation.proofs.lists_case.Goals as goal

pub neighbor_probabilities-requires : goal.neighbor_probabilities-requires
neighbor_probabilities-requires c =
    record {
      le_n = (
        (c.fits.ensures c.if-not-fits.false).0,
        search rules,
        (c.fits.ensures c.if-not-fits.false).1,
        (c.fits.ensures
            c.if-not-fits.false).2,
      );
      f_in_bounds = (
        search rules,
        omega (arith, (c.fits.ensures c.if-not-fits.false).3),
        omega (arith, (c.fits.ensures c.if-not-fits.false).3),
        search rules,
        search rules,
        search rules,
        search rules,
      );
    }
