-- What reading leaves, from what its parts leave. Assumes nothing.
use Rattle.std.specs.Prelude.{Ok, Err}
use mathlib.Core.Path.{◌≡◌, refl, sym, ap, ◌∙◌}
use mathlib.Core.List.{List, ◌++◌}
use mathlib.Core.Bool.{Bool, true, false}
use Prim.Native.Nat.{ℕ, ◌≤◌}
use lib.Dec.{leb}
use lib.ListN.{length, drop}
use lib.Ieee.{Float}
use borrow.Author.Tests.{leb-true}
use Rattle.laws.specs.Area.{zero64}
use Rattle.laws.proofs.Bools.{and_left, and_right}
use Rattle.areas.specs.Filled.{filled}
use Rattle.little.specs.Little.{word_in}
use Rattle.run_record.specs.Record.{sizes_of}
use Rattle.run_entry.specs.Entry.{areas_fit, GoodAreas}
use Rattle.run_entry.proofs.Laws.{areas-fine}
use Rattle.parked.specs.declared.Layout.{Layout}
use Rattle.parked.specs.Parked.{Stored}
use Rattle.parked.specs.Fine.{layout_by}
use Rattle.parked_file.specs.declared.Verdict.{Verdict}
use Rattle.refusal.specs.declared.Unreadable.TheVariants.{Bad, Short}
use Rattle.parked_file.specs.File.{is_parked}
use Rattle.unpark.specs.Unpark.{record_read, settings_read, fetched, weights_read, offsets_read, stored_read, has_room, unparking, unpark_of}
use Rattle.parked_file.specs.File.{verdict_of}
use Rattle.unpark.specs.Steps.{room_for}
use Rattle.parked_file.proofs.Stands.{parked-all}

-- the areas, each as it is read
pub stored_is : (g : ℕ → ℕ) (d e : Stored) (l : Layout) → l ≡ layout_by g →
    e.run ≡ record_read g ++ drop 14 d.run →
    e.positions ≡ fetched g 12 l.cells d.positions →
    e.increments ≡ fetched g l.increments l.cells d.increments →
    e.gains ≡ fetched g l.gains l.cells d.gains →
    e.affinities ≡ weights_read g l d.affinities →
    e.indices ≡ fetched g l.indices l.links d.indices →
    e.offsets ≡ offsets_read g l d.offsets →
    e ≡ stored_read g d
unfolding stored_read
stored_is g d e l q a b c h i j k = rw (a, b, c, h, i, j, k, q)

-- room is room
pub room-is : (f : List ℕ) (d : Stored) (F nodes : ℕ) → has_room (word_in f) d F nodes ≡ room_for f (length d.run) (length d.positions)
    (length d.increments) (length d.gains) (length d.affinities) (length d.indices) (length d.offsets) F nodes
unfolding has_room
room-is f d F nodes = refl

module _ (f : List ℕ) (d : Stored) (F nodes : ℕ) (e : has_room (word_in f) d F nodes ≡ true) where
  abbrev fit : Bool
  fit = areas_fit (settings_read (word_in f)) (length d.positions) (length d.increments) (length d.gains) (length d.affinities) (length d.indices) (length d.offsets) F nodes

  pub run-words-long : 14 ≤ length d.run
  unfolding has_room
  run-words-long = leb-true 14 (length d.run) (and_left (leb 14 (length d.run)) fit e)

  pub areas-long : GoodAreas (settings_read (word_in f)) (length d.positions) (length d.increments) (length d.gains) (length d.affinities) (length d.indices) (length d.offsets) F nodes
  unfolding has_room
  areas-long = areas-fine _ _ _ _ _ _ _ _ _ (and_right (leb 14 (length d.run)) fit e)

-- ---- the three answers

pub said : (f : List ℕ) (v : Verdict) → v ≡ verdict_of f → (b : Bool) → v.parked ≡ b → is_parked f ≡ b
said f v e b h = sym (ap (λ (y : Verdict). y.parked) e) ∙ h

module _ (f : List ℕ) (d : Stored) (F : List Float) (nodes : ℕ) (v : Verdict) (e : v ≡ verdict_of f) where
  pub out-bad : v.parked ≡ false → unparking (Err (Bad v.at)) d F ≡ unpark_of f d F nodes
  unfolding unpark_of
  out-bad h = rw (said f v e false h, ap (λ (y : Verdict). y.at) e)

  pub out-short : v.parked ≡ true → has_room (word_in f) d (length F) nodes ≡ false → unparking (Err Short) d F ≡ unpark_of f d F nodes
  unfolding unpark_of
  out-short h r = rw (said f v e true h, r)

  pub out-read : (d' : Stored) (F' : List Float) → v.parked ≡ true → has_room (word_in f) d (length F) nodes ≡ true →
      d' ≡ stored_read (word_in f) d →
      F' ≡ filled zero64 (sizes_of (settings_read (word_in f))).forces F →
      unparking (Ok v.at) d' F' ≡ unpark_of f d F nodes
  unfolding unpark_of
  out-read d' F' h r a b = rw (said f v e true h, r, a, b, ap (λ (y : Verdict). y.at) e ∙ parked-all f (said f v e true h))
