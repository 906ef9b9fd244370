-- `take_left::thinned_run` meets its contract: by `product-fits`.
use Prim.Native.Nat.{ℕ}
use native.Mathlib.Nat.{le_refl}
use Rattle.run_record.proofs.Laws.{product-fits}
use Prim.Native.Nat.{◌*◌}
use Rattle.take_left.specs.Outlook.{thinned, thinned_run}
use mathlib.Core.Path.{ap}
use native.Mathlib.Omega.{arith}
use Rattle.take_left.proofs.thinned_run.Goals as goal

pub overflow_mul-units : goal.overflow_mul-units
overflow_mul-units c =
    omega (
      arith,
      product-fits c.args.r.done 65535 c.thinned_settings-t.result.method c.args.m c.requires.1 (le_refl 65535)
          c.requires.0,
      ap (λ (k : ℕ). c.args.r.done * k) c.per.ensures,
    )

pub returns : goal.returns
unfolding thinned_run thinned
returns c =
    rw (c.per.ensures, c.thinned_settings-t.ensures)
