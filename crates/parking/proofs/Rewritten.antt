-- Writing what was read: the same bytes. Assumes nothing.
use Rattle.std.specs.Prelude.{Ok, Err}
use mathlib.Core.Path.{◌≡◌, refl, sym, ap, subst, ◌∙◌}
use mathlib.Core.List.{List, ◌++◌}
use mathlib.Core.Bool.{Bool, true, false, cond, not, true≢false}
use Prim.Native.Nat.{ℕ, ◌+◌, ◌*◌, ◌/◌, ◌<◌, ◌≤◌}
use native.Mathlib.Omega.{arith}
use lib.ListN.{length, take, drop, replicate, length-replicate}
use lib.Seq.{take_all}
use lib.Ieee.{Float}
use borrow.Author.Tests.{not-false}
use Rattle.laws.specs.Area.{zero64}
use Rattle.laws.specs.Joined.{joined}
use Rattle.laws.proofs.Laid.{laid-front}
use Rattle.areas.specs.Filled.{filled}
use Rattle.little.specs.Little.{little_bytes, word_in, AllBelow}
use Rattle.tree_node.specs.declared.Node.{Node}
use Rattle.run_record.specs.Record.{is_tree, sizes_of}
use Rattle.record_words.specs.RecordWords.{settings_of, method_of}
use Rattle.parked.specs.declared.Layout.{Layout}
use Rattle.parked.specs.Layout.{records_in}
use Rattle.parked.specs.Parked.{Stored, parked_word}
use Rattle.parked.specs.Fine.{layout_by}
use Rattle.park.specs.Park.{calm_state, parking, parked_into, park_of}
use Rattle.refusal.specs.declared.Unreadable.{Unreadable}
use Rattle.refusal.specs.declared.Unreadable.TheVariants.{Bad, Short}
use Rattle.parked_file.specs.File.{records_due, first_bad, is_parked}
use Rattle.unpark.specs.Unpark.{record_read, settings_read, stored_read, has_room, Unparking, unparking, unpark_of}
use Rattle.parking.specs.Held.{bytes_most}
use Rattle.parking.proofs.Regions.{end_whole}
use Rattle.parking.proofs.Words.{word-bytes}
use Rattle.parking.proofs.Files.{by-stacked, parked-long, parked-fine}
use Rattle.parking.proofs.Entries.{Writes, writes-parks}
use Rattle.parking.proofs.Taken.{layout-read, word_read, read-fine, read_between, read-calm, read-good}

-- ---- what was read

passes : (b : Bool) (x y : Unparking) (k : ℕ) (u : Unreadable) → x.answer ≡ Err u → (cond b x y).answer ≡ Ok k → (b ≡ false) × (y.answer ≡ Ok k)
passes true x y k u n e = cc
passes false x y k u n e = (refl, e)

-- the file is a parked run, and there is room
pub record Reads (f : List ℕ) (d : Stored) (F : List Float) (nodes k : ℕ) : Type 0 where
  pub stands : is_parked f ≡ true
  pub room : has_room (word_in f) d (length F) nodes ≡ true
  pub count : records_due f ≡ k
  pub same : (unpark_of f d F nodes).left ≡ stored_read (word_in f) d
  pub cleared : (unpark_of f d F nodes).forces ≡ filled zero64 (sizes_of (settings_read (word_in f))).forces F

pub reads : (f : List ℕ) (d : Stored) (F : List Float) (nodes k : ℕ) → (unpark_of f d F nodes).answer ≡ Ok k → Reads f d F nodes k
unfolding unpark_of
reads f d F nodes k e =
    let g : ℕ → ℕ = word_in f in
    let all = unparking (Ok (records_due f)) (stored_read g d) (filled zero64 (sizes_of (settings_read g)).forces F) in
    let rest = cond (not (has_room g d (length F) nodes)) (unparking (Err Short) d F) all in
    let a = passes (not (is_parked f)) (unparking (Err (Bad (first_bad f))) d F) rest k _ refl e in
    let b = passes (not (has_room g d (length F) nodes)) (unparking (Err Short) d F) all k _ refl a.1 in
    let p = not-false (is_parked f) a.0 in
    let r = not-false (has_room g d (length F) nodes) b.0 in
    record { stands = p; room = r; count = cc b.1; same = rw (p, r); cleared = rw (p, r) }

-- ---- what it is written as

module _ (f : List ℕ) (small : AllBelow bytes_most f) (P : is_parked f ≡ true) (d : Stored) where
  abbrev g : ℕ → ℕ
  g = word_in f

  abbrev l : Layout
  l = layout_by (word_in f)

  abbrev e : Stored
  e = stored_read (word_in f) d

  words_long : length f ≡ l.end * 8
  unfolding records_due
  words_long = parked-long f P ∙ times l.end (end_whole l (by-stacked g))
    where
      times : (x : ℕ) → x ≡ 4 * (x / 4) → 32 * (x / 4) ≡ x * 8
      times x e = omega arith

  bytes_read : (i : ℕ) → i < l.end → take 8 (drop (i * 8) f) ≡ little_bytes 8 (parked_word l e i)
  bytes_read i h = word-bytes f i small (omega (arith, words_long)) ∙ ap (little_bytes 8) (sym (word_read g (parked-fine f P) d i h))

  pub into-read : (t : List ℕ) → parked_into l e t ≡ f ++ drop (length f) t
  unfolding parked_into
  into-read t =
      let row : ℕ → List ℕ = λ w. little_bytes 8 (parked_word l e w) in
      let front : joined row l.end ≡ f = sym (laid-front 8 row l.end f bytes_read) ∙ take_all (l.end * 8) f (omega (arith, words_long)) in
      rw (front, words_long)

  pub writes-read : (forces nodes : ℕ) → has_room g d forces nodes ≡ true → (F : List Float) (ns : List Node) (t : List ℕ) → g 1 * (2 * g 3 + 1) ≤ length F →
      (is_tree (method_of (g 0)) ≡ true → 1 ≤ length ns) → length f ≤ length t → Writes e F ns t
  writes-read forces nodes R F ns t m n h =
      let A = parked-fine f P in
      record {
        read = read-fine g A d;
        good = read-good g A d forces nodes R F ns m n;
        between = read_between g A d;
        calm-all = subst (λ (x : Layout). calm_state x.cells e.positions e.increments e.gains ≡ true) (sym (layout-read g A d)) (read-calm g A d);
        room = subst (λ (x : Layout). 8 * x.end ≤ length t) (sym (layout-read g A d)) (omega (arith, words_long));
      }

-- Writing what was read: where k records of f are read, what they left, with any forces and nodes that a work call on it would take, is written as k records
-- into any target that has room, and the target from its start on is f.
module _ (f : List ℕ) (d : Stored) (F : List Float) (nodes k : ℕ) where
  pub writing-what-was-read : AllBelow bytes_most f → (unpark_of f d F nodes).answer ≡ Ok k → (forces : ℕ) (ns : List Node) (t : List ℕ) →
      (sizes_of (settings_read (word_in f))).forces ≤ forces → (is_tree (settings_read (word_in f)).method ≡ true → 1 ≤ length ns) → length f ≤ length t →
      park_of (unpark_of f d F nodes).left forces ns t ≡ parking (Ok k) (f ++ drop (length f) t)
  unfolding sizes_of settings_read settings_of record_read records_due
  writing-what-was-read b a forces ns t m n h =
      let r = reads f d F nodes k a in
      let e = stored_read (word_in f) d in
      let Z : List Float = replicate forces zero64 in
      let z : length Z ≡ forces = length-replicate forces zero64 in
      let W = writes-read f b r.stands d (length F) nodes r.room Z ns t (omega (arith, m, z)) n h in
      let q = layout-read (word_in f) (parked-fine f r.stands) d in
      ap (λ (x : Stored). park_of x forces ns t) r.same
      ∙ ap (λ (x : ℕ). park_of e x ns t) (sym z)
      ∙ writes-parks e Z ns t W
      ∙ ap (λ (x : Layout). parking (Ok (records_in x)) (parked_into x e t)) q
      ∙ rw (r.count, into-read f b r.stands d t)
