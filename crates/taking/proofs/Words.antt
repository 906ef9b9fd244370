-- Removals through words: the record's words afterwards say the record that is left, so a removal that answers 0 leaves words and areas that are an honest state. Assumes nothing.
use mathlib.Core.Path.{◌≡◌, refl, sym, ap, subst, ◌∙◌}
use mathlib.Core.List.{List}
use mathlib.Core.Bool.{Bool, true, false}
use Prim.Native.Nat.{ℕ, zero, suc, ◌*◌, ◌≤◌}
use native.Mathlib.Omega.{arith}
use lib.ListN.{length, set, length-set}
use lib.Seq.{get_or-set_same, get_or-set_other, set-get_or}
use Rattle.laws.specs.Area.{num}
use Rattle.run_record.specs.declared.Run.{Run}
use Rattle.run_record.specs.Record.{per_of}
use Rattle.tree_node.specs.declared.Node.{Node}
use Rattle.record_words.specs.RecordWords.{settings_of, standing_of, run_of}
use Rattle.fault_words.specs.FaultWords.{unfit}
use Rattle.fault_words.proofs.Fit.{fit-long}
use Rattle.take_gone.specs.Gone.{survivors}
use Rattle.take_left.specs.Outlook.{thinned, thinned_run}
use Rattle.take_out.specs.TakeOut.{Holdings, TookOut, state_held, take_out, take_number}
use Rattle.desk_take.specs.HostTake.{size_put, HostTook, taken_in, host_take}
use Rattle.descent.specs.Honest.{Honest}
use Rattle.taking.proofs.Accepted.{refused-changes-nothing, no-number-left, accepted}
use Rattle.taking.proofs.Honest.{what-is-left-is-honest}

-- ---- the two words

module _ (w : List ℕ) (n u : ℕ) (h : 14 ≤ length w) where
  abbrev put : List ℕ
  put = set (set w 0 n) 12 u

  other : (i : ℕ) → (i ≡ 12 → ⊥) → (i ≡ 0 → ⊥) → num put i ≡ num w i
  other i a b = get_or-set_other (set w 0 n) 12 i u 0 a ∙ get_or-set_other w 0 i n 0 b

  samples : num put 0 ≡ n
  samples = get_or-set_other (set w 0 n) 12 0 u 0 (λ e. omega arith) ∙ get_or-set_same w 0 n 0 (omega arith)

  total : num put 12 ≡ u
  total = get_or-set_same (set w 0 n) 12 u 0 (omega (arith, length-set w 0 n))

  -- what they say with the words beside them
  said : run_of put ≡ record { settings = thinned (settings_of w) n; standing = standing_of (num w 9); done = num w 10; phase = num w 11; units = u; used = num w 13 }
  unfolding run_of settings_of thinned
  said = rw (
    samples,
    total,
    other 1 (λ e. omega arith) (λ e. omega arith),
    other 2 (λ e. omega arith) (λ e. omega arith),
    other 3 (λ e. omega arith) (λ e. omega arith),
    other 4 (λ e. omega arith) (λ e. omega arith),
    other 5 (λ e. omega arith) (λ e. omega arith),
    other 6 (λ e. omega arith) (λ e. omega arith),
    other 7 (λ e. omega arith) (λ e. omega arith),
    other 8 (λ e. omega arith) (λ e. omega arith),
    other 9 (λ e. omega arith) (λ e. omega arith),
    other 10 (λ e. omega arith) (λ e. omega arith),
    other 11 (λ e. omega arith) (λ e. omega arith),
    other 13 (λ e. omega arith) (λ e. omega arith),
  )

-- the words of the record that they were read from stay as they say
size_same : (w : List ℕ) → 14 ≤ length w → run_of (size_put (run_of w) w) ≡ run_of w
unfolding size_put run_of settings_of thinned
size_same w h = said w (num w 0) (num w 12) h

-- those of the record of m samples say it, between two iterations
size-thinned : (w : List ℕ) (m : ℕ) → 14 ≤ length w → (run_of w).phase ≡ 0 → run_of (size_put (thinned_run (run_of w) m) w) ≡ thinned_run (run_of w) m
unfolding size_put run_of thinned_run thinned
size-thinned w m h p = said w m (num w 10 * per_of (settings_of w).method m) h ∙ rw p

-- ---- the whole call

module _ (g w : List ℕ) (h : Holdings) (ns : List Node) (a : List ℕ) (fit : unfit w (length a) ≡ false) where
  abbrev out : TookOut
  out = take_out g (run_of w) h ns

  took : host_take g w h ns a ≡ taken_in out a w
  unfolding host_take
  took = rw fit

  long : 14 ≤ length w
  long = fit-long w (length a) fit

  -- the words afterwards say the record that is left
  pub words-left-told : run_of (host_take g w h ns a).run ≡ out.run
  words-left-told = ap (λ (x : HostTook). run_of x.run) took ∙ by_number (take_number out.answer) refl
    where
      by_number : (k : ℕ) → take_number out.answer ≡ k → run_of (size_put out.run w) ≡ out.run
      by_number zero e =
          let m = length (survivors g (run_of w).settings.n) in
          let c = accepted g (run_of w) h ns m (no-number-left g (run_of w) h ns e) in
          let r : out.run ≡ thinned_run (run_of w) m = ap (λ (o : TookOut). o.run) c.outcome in
          rw r (size-thinned w m long c.passed.between)
      by_number (suc k) e =
          let r : out.run ≡ run_of w = (refused-changes-nothing g (run_of w) h ns (λ z. none k (sym e ∙ z))).run in
          rw r (size_same w long)
        where
          none : (k : ℕ) → suc k ≡ 0 → ⊥
          none k z = omega arith

  -- a removal that answers 0 leaves words and areas that are an honest state
  pub host-left-honest : (host_take g w h ns a).number ≡ 0 → Honest (state_held (run_of (host_take g w h ns a).run) (host_take g w h ns a).areas ns)
  host-left-honest e =
      let z : take_number out.answer ≡ 0 = sym (ap (λ (x : HostTook). x.number) took) ∙ e in
      let k = what-is-left-is-honest g (run_of w) h ns _ (no-number-left g (run_of w) h ns z) in
      subst Honest (sym (ap (λ (r : Run). state_held r (host_take g w h ns a).areas ns) words-left-told ∙ ap (λ (x : HostTook). state_held out.run x.areas ns) took)) k

-- ---- a refusal

size-kept : (w : List ℕ) → size_put (run_of w) w ≡ w
unfolding size_put run_of settings_of
size-kept w = ap (λ (x : List ℕ). set x 12 (num w 12)) (set-get_or w 0 0) ∙ set-get_or w 12 0

-- the record's words and the areas are as they were
pub record HostUnchanged (w : List ℕ) (h : Holdings) (o : HostTook) : Type 0 where
  pub words : o.run ≡ w
  pub areas : o.areas ≡ h

-- a removal that answers a number changes nothing but the answer's word
pub host-refused-changes-nothing : (g w : List ℕ) (h : Holdings) (ns : List Node) (a : List ℕ) → ((host_take g w h ns a).number ≡ 0 → ⊥) → HostUnchanged w h (host_take g w h ns a)
unfolding host_take
host-refused-changes-nothing g w h ns a n = by (unfit w (length a)) refl
  where
    by : (b : Bool) → unfit w (length a) ≡ b → HostUnchanged w h (host_take g w h ns a)
    by true e = rw e (record { words = refl; areas = refl })
    by false e =
        let u = refused-changes-nothing g (run_of w) h ns (λ z. n (ap (λ (x : HostTook). x.number) (took g w h ns a e) ∙ z)) in
        rw e (record { words = ap (λ (x : Run). size_put x w) u.run ∙ size-kept w; areas = u.areas })
