-- The map from the answers of the calls below it, and how many records a file within the limit has. Assumes nothing.
use mathlib.Core.Path.{◌≡◌, sym, ap, subst, ◌∙◌}
use mathlib.Core.List.{List}
use mathlib.Core.Bool.{Bool, true, false, cond}
use Prim.Native.Nat.{ℕ, ◌/◌, ◌%◌, ◌<◌, ◌≤◌}
use native.Mathlib.Omega.{arith}
use lib.Dec.{eqb, ltb}
use lib.ListN.{length}
use borrow.Author.Tests.{lt-ltb, le-ltb}
use lib.Ieee.{Float}
use Rattle.std.specs.Prelude.{Result, Ok, Err}
use Rattle.frames.specs.declared.BadRecord.{BadRecord}
use Rattle.laws.specs.Domain.{most_word}
use Rattle.laws.specs.Loops.{first}
use Rattle.frames.specs.Frames.{record_bytes, frames_of, bad_place, bad_at, whole_records}
use Rattle.run_record.specs.declared.Settings.{Settings}
use Rattle.run_record.specs.declared.Run.{Run}
use Rattle.tree_node.specs.declared.Cell.{Cell}
use Rattle.run_entry.specs.State.{state}
use Rattle.run_budget.specs.declared.Answer.{Answer}
use Rattle.descent.specs.Descent.{work}
use Rattle.refusal.specs.declared.Refusal.{Refusal}
use Rattle.refusal.specs.Refusal.{refusal_number, refusal_of, numbered}
use Rattle.refusal.proofs.Numbers.{refusal-by-number}
use Rattle.prepare.specs.Prepare.{Lent, PrepareOutcome, prepare_outcome, prepared, memory_of}
use Rattle.bench_mapping.specs.declared.MapFault.{MapFault}
use Rattle.bench_mapping.specs.declared.MapFault.TheVariants.{Long, Record, Refused}
use Rattle.bench_mapping.specs.declared.Mapped.{Mapped}
use Rattle.bench_mapping.specs.Mapping.{bench_frames, bench_bytes, zeros, bench_areas, bench_cells, mapped_as, worked_as, goes_on, descended, mapped, records_of, map_of}

-- ---- preparation, then the work call

module _ (s : Settings) (table start : List Float) (l : Lent) (p : Result Run Refusal) (e : prepare_outcome (numbered refusal_number p) l ≡ prepared s table start 256 bench_areas) where
  goes-on : goes_on (numbered refusal_number p) l ≡ descended s table start
  unfolding descended
  goes-on = ap (λ (o : PrepareOutcome). goes_on o.answer o.areas) e

  pub refused-map : (k : Refusal) → p ≡ Err k → mapped_as (Err (Refused k)) l.positions ≡ descended s table start
  refused-map k h =
      let same : mapped_as (Err (Refused k)) l.positions ≡ goes_on (Err (refusal_number k)) l = ap (λ (r : Refusal). mapped_as (Err (Refused r)) l.positions) (sym (refusal-by-number k)) in
      same ∙ ap (λ (x : Result Run Refusal). goes_on (numbered refusal_number x) l) (sym h) ∙ goes-on

  pub worked-is : (r : Run) (a : Answer) (y : List Float) (cs : List Cell) → p ≡ Ok r → cs ≡ bench_cells
      → (a ≡ (work most_word (state r (memory_of l cs))).answer) × (y ≡ (work most_word (state r (memory_of l cs))).left.memory.positions) → mapped_as (Ok a) y ≡ descended s table start
  worked-is r a y cs h q w =
      ap (λ (b : Answer). mapped_as (Ok b) y) w.0 ∙ ap (mapped_as (Ok (work most_word (state r (memory_of l cs))).answer)) w.1
      ∙ ap (λ (ds : List Cell). worked_as (work most_word (state r (memory_of l ds)))) q ∙ ap (λ (x : Result Run Refusal). goes_on (numbered refusal_number x) l) (sym h) ∙ goes-on

-- ---- the records of a file

count_of : Result ℕ BadRecord → ℕ
count_of (Ok n) = n
count_of (Err p) = 0

least : (w : ℕ) → 0 ≤ w
least w = omega arith

itself : (w : ℕ) → w ≤ w
itself w = omega arith

count_most : (a b : Bool) (p w : ℕ) → count_of (cond a (Err (bad_place p)) (cond b (Ok w) (Err (bad_place w)))) ≤ w
unfolding count_of
count_most true b p w = least w
count_most false true p w = itself w
count_most false false p w = least w

count-in : (f : List ℕ) → count_of (frames_of f) ≤ length f / record_bytes
unfolding frames_of
count-in f = count_most (ltb (first (bad_at f) (whole_records f)) (whole_records f)) (eqb (length f % record_bytes) 0) (first (bad_at f) (whole_records f)) (whole_records f)

-- a file of at most 4,608 bytes has at most 64 good records
pub frames-few : (f : List ℕ) (n : ℕ) → length f ≤ bench_bytes → frames_of f ≡ Ok n → n ≤ bench_frames
unfolding count_of
frames-few f n h e = omega (arith, subst (λ (r : Result ℕ BadRecord). count_of r ≤ length f / record_bytes) e (count-in f))

-- ---- the whole file

pub too_long : (f : List ℕ) → bench_bytes < length f → mapped_as (Err Long) (zeros 128) ≡ map_of f
unfolding map_of
too_long f h = rw (lt-ltb _ _ h)

module _ (f : List ℕ) (h : length f ≤ bench_bytes) where
  within : records_of f (frames_of f) ≡ map_of f
  unfolding map_of
  within = rw (le-ltb _ _ h)

  pub bad-record : (p : ℕ) → frames_of f ≡ Err (bad_place p) → mapped_as (Err (Record p)) (zeros 128) ≡ map_of f
  bad-record p e = ap (records_of f) (sym e) ∙ within

  pub all-mapped : (n : ℕ) (m : Mapped) → frames_of f ≡ Ok n → m ≡ mapped f n → m ≡ map_of f
  all-mapped n m e q = q ∙ ap (records_of f) (sym e) ∙ within
