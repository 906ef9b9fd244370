-- `elementary::logarithm::ln_at` meets its contract: from what its calls promise.
use Rattle.std.proofs.Common.{refl, w64}
use mir.ValLaws.{to_z-of_z}
use Rattle.elementary.specs.Ln.{ln_at}
use Rattle.elementary.proofs.logarithm.ln_at.Goals as goal

pub returns : goal.returns
unfolding ln_at
returns c =
    let the-fits = c.ranges in
    rw (c.nearest_i64_to_f64-kf.ensures, c.odd_series-t.ensures, to_z-of_z w64 c.args.k the-fits.k) refl
