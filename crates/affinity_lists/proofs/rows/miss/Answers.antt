-- `lists::rows::miss` meets its contract: the frame that row j names has a row of its own, in which `find` looks for j. Assumes nothing.
use Rattle.std.proofs.Common.{◌≡◌, ◌∙◌, refl, sym, ap, ℕ, Bool, true, false, not, cond, true≢false, Option, Some, None, is_some}
use mir.Val.{bool_byte}
use Rattle.affinity_lists.specs.Steps.{miss_of}
use Rattle.laws.proofs.Numbers.{row_in}
use native.Mathlib.Omega.{arith}
use Rattle.affinity_lists.proofs.rows.miss.Goals as goal

pub overflow_mul-i : goal.overflow_mul-i
overflow_mul-i c =
    omega (arith, row_in c.args.j c.args.n c.args.k _ c.requires.0 c.requires.3)

pub overflow_add-i : goal.overflow_add-i
overflow_add-i c =
    omega (arith, row_in c.args.j c.args.n c.args.k _ c.requires.0 c.requires.3)

pub offset_bounds-indices-j : goal.offset_bounds-indices-j
offset_bounds-indices-j c =
    omega (arith, row_in c.args.j c.args.n c.args.k _ c.requires.0 c.requires.3)

pub bounds-indices-j : goal.bounds-indices-j
bounds-indices-j c =
    omega (arith, row_in c.args.j c.args.n c.args.k _ c.requires.0 c.requires.3)

pub overflow_cast-i : goal.overflow_cast-i
overflow_cast-i c =
    omega (arith, c.requires.4.inside _ _ c.requires.0 c.requires.1)

pub overflow_mul-i-2 : goal.overflow_mul-i-2
overflow_mul-i-2 c =
    omega (
      arith,
      row_in _ c.args.n c.args.k _ (c.requires.4.inside _ _ c.requires.0 c.requires.1)
          c.requires.3,
    )

pub find-requires : goal.find-requires
find-requires c = (
  row_in _ c.args.n c.args.k _ (c.requires.4.inside _ _ c.requires.0 c.requires.1) c.requires.3,
  c.requires.4.rising _ (c.requires.4.inside _ _ c.requires.0 c.requires.1),
)

-- 1 where nothing was found
missed : {o : Option ℕ} (f : ℕ) (b found : Bool) → o ≡ cond found (Some f) None → is_some o ≡ not b → bool_byte b ≡ cond found 0 1
missed f true true e h = absurd (true≢false (sym (ap is_some e) ∙ h))
missed f false true e h = refl
missed f true false e h = refl
missed f false false e h = absurd (true≢false (sym h ∙ ap is_some e))

pub returns : goal.returns
unfolding miss_of
returns c =
    c.from.ensures ∙ missed _ _ _ c.find.ensures c.is_none.ensures
