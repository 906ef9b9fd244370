-- What holds of every record and every memory that is asked for its figure. Assumes nothing.
use mathlib.Core.List.{List}
use mathlib.Core.Path.{◌≡◌, refl, sym}
use mathlib.Core.Bool.{Bool, true, false, not, ◌&&◌, ◌||◌, true≢false}
use Prim.Native.Nat.{ℕ, ◌+◌, ◌*◌, ◌<◌, ◌≤◌, min}
use native.Mathlib.Omega.{arith}
use lib.Dec.{eqb, leb}
use lib.ListN.{length}
use lib.Ieee.{Float, binary64, add, eq, of_bits}
use borrow.Author.Tests.{lt-leb, leb-true, eqb-true, eq-eqb, ne_eqb}
use Rattle.laws.specs.Area.{at, zero64}
use Rattle.laws.proofs.Bools.{by_bool, and_left, and_right}
use Rattle.laws.proofs.Loops.{loop-keeps}
use Rattle.laws.proofs.Numbers.{row_in}
use Rattle.gradient.specs.Forces.{place_of}
use Rattle.gradient.specs.Element.{share_step, share_sum_of}
use Rattle.tree_node.specs.declared.Cell.{Cell}
use Rattle.run_record.specs.declared.Run.{Run}
use Rattle.run_record.specs.declared.Standing.{Standing}
use Rattle.run_record.specs.declared.Standing.TheVariants.{Running, Stopped, Finished}
use Rattle.run_record.specs.Record.{is_tree, is_ended, above_zero, state_fits, sizes_of, GoodSettings}
use Rattle.run_entry.specs.State.{Memory, memory}
use Rattle.run_entry.specs.declared.Fault.TheVariants.{Areas}
use Rattle.run_entry.specs.Entry.{is_fine, record_fault, areas_fit, fault_at, GoodCounters}
use Rattle.run_entry.proofs.Laws.{found-none}
use Rattle.run_rooms.proofs.Places.{cells-forces}
use Rattle.std.specs.Prelude.{Err}
use Rattle.divergence.specs.declared.DivergenceFault.TheVariants.{Early, Bad}
use Rattle.divergence.specs.Divergence.{total_of, is_zero, just_ended, too_early, divergence_fault, after_tests, divergence_of}
use Rattle.divergence.proofs.Laws.{divergence-asks}

-- ---- a short copy is 12, whatever the contents are

pub short-copy : (r : Run) (m : Memory) (y : List Float) → is_fine (record_fault r) ≡ true → length y < r.settings.n * r.settings.c → divergence_of r m y ≡ Err (Bad Areas)
unfolding divergence_of divergence_fault after_tests fault_at areas_fit sizes_of
short-copy r m y e l = rw (e, lt-leb (r.settings.n * r.settings.c) (min (length m.positions) (length y)) (omega (arith, l)))

-- ---- a run that has ended stands after an iteration

ended_at : (t : Standing) (done set phase : ℕ) (least : Float) → 1 ≤ set → is_ended t ≡ true → state_fits t done set phase least ≡ true → (1 ≤ done) × (phase ≡ 0)
unfolding state_fits
ended_at Running done set phase least h e f = absurd (true≢false (sym e))
ended_at Stopped done set phase least h e f =
    let A = leb 251 done in
    let B = leb done set in
    let C = above_zero least in
    let a = leb-true 251 done (and_left A B (and_left (A && B) C (and_left (A && B && C) (eqb phase 0) f))) in
    (omega (arith, a), eqb-true phase 0 (and_right (A && B && C) (eqb phase 0) f))
ended_at Finished done set phase least h e f =
    let a = eqb-true done set (and_left (eqb done set) (eqb phase 0) f) in
    (omega (arith, a, h), eqb-true phase 0 (and_right (eqb done set) (eqb phase 0) f))

pub ended-stands : (r : Run) → GoodSettings r.settings → GoodCounters r → is_ended r.standing ≡ true → just_ended r ≡ true
unfolding just_ended
ended-stands r s g e =
    let a = ended_at r.standing r.done r.settings.iterations r.phase r.settings.minimum s.iterations-some e g.standing-fits in
    rw (ne_eqb r.done 0 (λ z. omega (arith, z, a.0)), eq-eqb r.phase 0 a.1)

-- ---- forces that are all +0.0 are 17

zero-sum : add binary64 zero64 zero64 ≡ zero64
unfolding add of_bits
zero-sum = refl

zero_is : is_zero zero64 ≡ true
unfolding eq of_bits
zero_is = refl

-- n·(2c + 1) places are +0.0
abbrev pub Zeros : Run → List Float → Type 0
Zeros r F = (i : ℕ) → i < r.settings.n * (2 * r.settings.c + 1) → at F i ≡ zero64

shares-zero : (F : List Float) (n c : ℕ) → ((i : ℕ) → i < n → at F (place_of c i + 2 * c) ≡ zero64) → share_sum_of F n c ≡ zero64
shares-zero F n c h = loop-keeps (λ (k : ℕ) (s : Float). s ≡ zero64) (share_step F c) n 0 zero64 (λ j s l e. rw (e, h j (omega (arith, l))) zero-sum) refl

total-zero : (r : Run) (F : List Float) → 2 ≤ r.settings.n → Zeros r F → total_of r F ≡ zero64
unfolding total_of
total-zero r F l h =
    let n = r.settings.n in
    let c = r.settings.c in
    by_bool (total_of r F ≡ zero64) (is_tree r.settings.method)
    (λ t. rw t (shares-zero F n c (λ i b. h (place_of c i + 2 * c) (omega (arith, row_in i n (2 * c + 1) (n * (2 * c + 1)) b (le_same (n * (2 * c + 1))))))))
    (λ t. rw t (h (n * c) (omega (arith, cells-forces n c, l))))
  where
    le_same : (k : ℕ) → k ≤ k
    le_same k = omega arith

or-true : (b : Bool) → b || true ≡ true
or-true true = refl
or-true false = refl

early-zero : (r : Run) (F : List Float) → 2 ≤ r.settings.n → Zeros r F → too_early r F ≡ true
unfolding too_early
early-zero r F l h = rw (total-zero r F l h, zero_is) (or-true (not (just_ended r)))

pub zero-forces : (r : Run) (y v g P : List Float) (xs off : List ℕ) (F : List Float) (cs : List Cell) (z : List Float)
    → is_fine (divergence_fault r (memory y v g P xs off F cs) z) ≡ true → Zeros r F → divergence_of r (memory y v g P xs off F cs) z ≡ Err Early
unfolding divergence_of after_tests divergence_fault
zero-forces r y v g P xs off F cs z e h =
    let f = divergence_fault r (memory y v g P xs off F cs) z in
    let room = divergence-asks r y v g P xs off F cs z (min (length y) (length z)) refl f refl e in
    rw (found-none f e, early-zero r F room.total-room.settings-good.n-some h)
