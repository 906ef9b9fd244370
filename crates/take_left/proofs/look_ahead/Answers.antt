-- `take_left::look_ahead` meets its contract: by `judging-room`, `told-crowded`, `told-left`, `told-barred`, `thinned-n`, `count_left` and others.
use Rattle.take_left.proofs.Judged.{judging, judging-room, told-crowded, told-left, told-barred}
use mathlib.Core.Path.{refl}
use Rattle.take_left.proofs.Judged.{thinned-n}
use Rattle.run_record.specs.Record.{late_fault}
use Rattle.run_record.specs.declared.Settings.{Settings}
use lib.Ieee.{binary64, of_int, lt}
use lib.ListN.{length}
use lib.IntN.{pos}
use Prim.Native.Nat.{◌-◌}
use mathlib.Core.Bool.{false, not}
use mathlib.Core.Path.{◌≡◌}
use Rattle.take_left.proofs.Judged.{told-none, told-some, count_left, late-above, judged-inside, judged-unordered, judged-few, judged-perplexed}
use Rattle.take_gone.proofs.Left.{gone-climbs}
use Prim.Native.Nat.{ℕ, ◌≤◌}
use mathlib.Core.Path.{sym, ap, subst, ◌∙◌}
use native.Mathlib.Omega.{arith}
use Rattle.take_left.proofs.look_ahead.Goals as goal

pub returns-then-r-ne0 : goal.returns-then-r-ne0
returns-then-r-ne0 c =
    judged-inside c.args.r c.args.gone.now c.args.positions.now c.args.indices.now
    c.args.offsets.now c.if-r-ne0.true

pub returns-then-not-gone_fine : goal.returns-then-not-gone_fine
returns-then-not-gone_fine c =
    judged-unordered c.args.r c.args.gone.now c.args.positions.now c.args.indices.now
    c.args.offsets.now c.if-r-ne0.false (sym c.gone_fine.ensures ∙ c.if-not-gone_fine.true)

pub overflow_sub-m : goal.overflow_sub-m
overflow_sub-m c =
    omega (arith, count_left c.args.gone.now c.args.r.settings.n (sym c.gone_fine.ensures ∙ c.if-not-gone_fine.false))

pub returns-then-m-lt2 : goal.returns-then-m-lt2
returns-then-m-lt2 c =
    judged-few c.args.r c.args.gone.now c.args.positions.now c.args.indices.now
    c.args.offsets.now c.if-r-ne0.false (sym c.gone_fine.ensures ∙ c.if-not-gone_fine.false)
    (omega (
      arith,
      (count_left c.args.gone.now c.args.r.settings.n (sym c.gone_fine.ensures ∙ c.if-not-gone_fine.false)),
      c.if-m-lt2.true,
    ))

pub late_fault-requires : goal.late_fault-requires
late_fault-requires c =
    subst (λ (x : Settings). x.n ≤ 4096) (sym c.thinned_settings-t.ensures)
    (omega (
      arith,
      thinned-n c.args.r.settings (c.args.r.settings.n - length c.args.gone.now),
      c.requires.settings-good.n-most,
    ))

pub returns-then-is_err : goal.returns-then-is_err
returns-then-is_err c =
    judged-perplexed c.args.r c.args.gone.now c.args.positions.now c.args.indices.now
    c.args.offsets.now c.if-r-ne0.false (sym c.gone_fine.ensures ∙ c.if-not-gone_fine.false)
    (omega (
      arith,
      (count_left c.args.gone.now c.args.r.settings.n (sym c.gone_fine.ensures ∙ c.if-not-gone_fine.false)),
      c.if-m-lt2.false,
    )) (subst (λ (x : ℕ). lt c.args.r.settings.perplexity (of_int binary64 (pos x)) ≡ false)
    (count_left c.args.gone.now c.args.r.settings.n (sym c.gone_fine.ensures ∙ c.if-not-gone_fine.false)).1
    (late-above c.args.r.settings _ _ (omega (arith, c.if-m-lt2.false))
    (ap late_fault c.thinned_settings-t.ensures) (told-some _ _ c.late_fault.ensures (c.is_err.ensures.negation ∙ ap not c.if-is_err.true))))

pub is_crowded-requires : goal.is_crowded-requires
is_crowded-requires c =
    judging-room c.requires
    (judging c.args.r c.args.gone.now _ _ _ c.if-r-ne0.false (sym c.gone_fine.ensures ∙ c.if-not-gone_fine.false) refl
    (omega (arith, c.if-m-lt2.false)) c.thinned_settings-t.ensures refl (told-none _ _ c.late_fault.ensures (c.is_err.ensures.negation ∙ ap not c.if-is_err.false)))

pub returns-then-is_crowded : goal.returns-then-is_crowded
returns-then-is_crowded c =
    told-crowded _ _ _ (judging c.args.r c.args.gone.now _ _ _ c.if-r-ne0.false
    (sym c.gone_fine.ensures ∙ c.if-not-gone_fine.false) refl (omega (arith, c.if-m-lt2.false)) c.thinned_settings-t.ensures refl
    (told-none _ _ c.late_fault.ensures (c.is_err.ensures.negation ∙ ap not c.if-is_err.false))) (sym c.is_crowded.ensures ∙ c.if-is_crowded.true)

pub is_calm_left-requires : goal.is_calm_left-requires
is_calm_left-requires c =
    let j = (judging c.args.r c.args.gone.now _ _ _ c.if-r-ne0.false (sym c.gone_fine.ensures ∙ c.if-not-gone_fine.false) refl
    (omega (arith, c.if-m-lt2.false)) c.thinned_settings-t.ensures refl (told-none _ _ c.late_fault.ensures (c.is_err.ensures.negation ∙ ap not c.if-is_err.false))) in (
      c.requires.settings-good.n-most,
      c.requires.settings-good.c-most,
      c.requires.positions-long,
      gone-climbs c.args.gone.now
          c.args.r.settings.n j.listed-fine,
      j.count,
    )

pub returns-then-is_calm_left : goal.returns-then-is_calm_left
returns-then-is_calm_left c =
    told-left _ _ _ (judging c.args.r c.args.gone.now _ _ _ c.if-r-ne0.false
    (sym c.gone_fine.ensures ∙ c.if-not-gone_fine.false) refl (omega (arith, c.if-m-lt2.false)) c.thinned_settings-t.ensures refl
    (told-none _ _ c.late_fault.ensures (c.is_err.ensures.negation ∙ ap not c.if-is_err.false)))
    (sym c.is_crowded.ensures ∙ c.if-is_crowded.false) (sym c.is_calm_left.ensures ∙ c.if-is_calm_left.true)

pub returns : goal.returns
returns c =
    told-barred _ _ _ (judging c.args.r c.args.gone.now _ _ _ c.if-r-ne0.false
    (sym c.gone_fine.ensures ∙ c.if-not-gone_fine.false) refl (omega (arith, c.if-m-lt2.false)) c.thinned_settings-t.ensures refl
    (told-none _ _ c.late_fault.ensures (c.is_err.ensures.negation ∙ ap not c.if-is_err.false)))
    (sym c.is_crowded.ensures ∙ c.if-is_crowded.false) (sym c.is_calm_left.ensures ∙ c.if-is_calm_left.false)
