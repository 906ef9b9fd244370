-- Frames taken out of a run: the order of the tests, and the record and every area afterwards. Definitions only.
use Rattle.std.specs.Prelude.{List, ◌++◌, map, ◌≡◌, Bool, true, false, cond, not, ◌&&◌, ◌||◌, ℕ, ◌+◌, ◌*◌, ◌≤◌, eqb, leb, length, drop, Float, Result, Ok, Err}
use Rattle.std.specs.Result.{is_ok}
use Rattle.laws.specs.Area.{num, bits, zero64}
use Rattle.laws.specs.Domain.{most_frames}
use Rattle.areas.specs.Filled.{filled}
use Rattle.run_record.specs.declared.Run.{Run}
use Rattle.run_record.specs.declared.Settings.{Settings}
use Rattle.run_record.specs.Record.{is_tree, settings_fault, GoodSettings}
use Rattle.tree_node.specs.declared.Node.{Node}
use Rattle.run_entry.specs.State.{State}
use Rattle.run_entry.specs.Entry.{Found, by_tests, fault_at, fault_number}
use Rattle.take_gone.specs.Gone.{survivors, Climbs}
use Rattle.take_rows.specs.Rows.{shrunk, kept_rows, kept_square, centred_rows, Staying}
use Rattle.take_lists.specs.Packed.{packed_indices, packed_weights, packed_offsets, Listed}
use Rattle.refusal.specs.Refusal.{number_told}
use Rattle.take_left.specs.Outlook.{Outlook, thinned_run, outlook_of, denial_number, OutlookRoom}
use Rattle.take_out.specs.declared.TakeFault.{TakeFault}
use Rattle.take_out.specs.declared.TakeFault.TheVariants.{Denied, Bad}

-- ---- the areas of which something is taken out: those of the run but for the nodes, the table and the old places. Values that are only moved are words, by their bits

pub record Holdings : Type 0 where
  pub positions : List Float
  pub increments : List ℕ
  pub gains : List ℕ
  pub affinities : List ℕ
  pub indices : List ℕ
  pub offsets : List ℕ
  pub forces : List Float
  pub table : List ℕ
  pub old : List ℕ

abbrev pub holdings : List Float → List ℕ → List ℕ → List ℕ → List ℕ → List ℕ → List Float → List ℕ → List ℕ → Holdings
holdings p i g a x o f t q = record { positions = p; increments = i; gains = g; affinities = a; indices = x; offsets = o; forces = f; table = t; old = q }

-- the state that a record, such areas and nodes are: of each word the value with its bits
abbrev pub state_held : Run → Holdings → List Node → State
state_held r h ns = record {
  run = r;
  memory = record {
    positions = h.positions;
    increments = map bits h.increments;
    gains = map bits h.gains;
    affinities = map bits h.affinities;
    indices = h.indices;
    offsets = h.offsets;
    forces = h.forces;
    nodes = ns;
  };
}

-- ---- the tests

-- 12 also for a table below n·f or fewer than n old places: then no position counts as lent. (Where the settings are bad nothing is asked of the areas, and n·f need not be worked out.)
unfoldable pub lent_positions : Settings → ℕ → ℕ → ℕ → ℕ
lent_positions s p t q = cond (not (eqb (settings_fault s) 0) || (leb (s.n * s.f) t && leb s.n q)) p 0

-- as in a work call
unfoldable pub take_fault : Run → Holdings → List Node → Found
take_fault r h ns =
    fault_at r (lent_positions r.settings (length h.positions) (length h.table) (length h.old))
    (length h.increments) (length h.gains) (length h.affinities) (length h.forces) h.indices h.offsets ns

-- the tests of what would be left have passed
abbrev pub is_accepted : Outlook → Bool
is_accepted v = is_ok v

-- ---- what is left

-- keep: the old places of the survivors; W, I and O: affinities, indices and offsets. An exact run has a matrix and no lists
unfoldable pub affinities_after : Settings → List ℕ → List ℕ → List ℕ → List ℕ → List ℕ
affinities_after s keep W I O = cond (is_tree s.method) (shrunk 0 (num O s.n) (packed_weights keep W I O) W) (shrunk 0 (s.n * s.n) (kept_square keep s.n W) W)

unfoldable pub indices_after : Settings → List ℕ → List ℕ → List ℕ → List ℕ
indices_after s keep I O = cond (is_tree s.method) (shrunk 0 (num O s.n) (packed_indices keep I O) I) I

unfoldable pub offsets_after : Settings → List ℕ → List ℕ → List ℕ → List ℕ
offsets_after s keep I O = cond (is_tree s.method) (shrunk 0 (s.n + 1) (packed_offsets keep I O) O) O

-- survivors close ranks, zeros follow up to the old sizes (0 is the word of +0.0); all forces are zero
unfoldable pub packed_areas : Settings → List ℕ → Holdings → Holdings
packed_areas s keep h = record {
  positions = shrunk zero64 (s.n * s.c) (centred_rows keep s.c h.positions) h.positions;
  increments = shrunk 0 (s.n * s.c) (kept_rows keep s.c h.increments) h.increments;
  gains = shrunk 0 (s.n * s.c) (kept_rows keep s.c h.gains) h.gains;
  affinities = affinities_after s keep h.affinities h.indices h.offsets;
  indices = indices_after s keep h.indices h.offsets;
  offsets = offsets_after s keep h.indices h.offsets;
  forces = filled zero64 (s.n * (2 * s.c + 1)) h.forces;
  table = shrunk 0 (s.n * s.f) (kept_rows keep s.f h.table) h.table;
  old = keep ++ drop (length keep) h.old;
}

-- what is answered: so many are left, or why nothing is taken out
abbrev pub TakeAnswer : Type 0
TakeAnswer = Result ℕ TakeFault

-- an outlook as it is answered
abbrev pub as_taken : Outlook → TakeAnswer
as_taken (Ok m) = Ok m
as_taken (Err d) = Err (Denied d)

-- what is answered, and record and areas afterwards
pub record TookOut : Type 0 where
  pub answer : TakeAnswer
  pub run : Run
  pub areas : Holdings

abbrev pub took_out : TakeAnswer → Run → Holdings → TookOut
took_out a r h = record { answer = a; run = r; areas = h }

-- once the entry tests have found f: a refusal changes nothing
unfoldable pub take_tested : Found → Run → List ℕ → Holdings → TookOut
take_tested f r g h =
    let v = outlook_of r g h.positions h.indices h.offsets in
    let keep = survivors g r.settings.n in
    by_tests f
    (cond (is_accepted v) (took_out (as_taken v) (thinned_run r (length keep)) (packed_areas r.settings keep h)) (took_out (as_taken v) r h))
    (λ b. took_out (Err (Bad b)) r h)

-- ---- the whole call

-- the samples in g taken out of a run with the record r, the areas h and the nodes ns, which stay as they are
unfoldable pub take_out : List ℕ → Run → Holdings → List Node → TookOut
take_out g r h ns = take_tested (take_fault r h ns) r g h

-- the state that is left, with these nodes
abbrev pub left_behind : TookOut → List Node → State
left_behind k ns = state_held k.run k.areas ns

abbrev pub take_fault_number : TakeFault → ℕ
take_fault_number (Denied d) = denial_number d
take_fault_number (Bad f) = fault_number f

-- the number of a refusal; 0 where there is none
abbrev pub take_number : TakeAnswer → ℕ
take_number = number_told take_fault_number

-- ---- what the entry tests have shown

pub record TakeRoom (r : Run) (h : Holdings) : Type 0 where
  pub outlook-room : OutlookRoom r h.positions h.indices h.offsets
  pub done-most : r.done ≤ 65535
  pub increments-long : r.settings.n * r.settings.c ≤ length h.increments
  pub gains-long : r.settings.n * r.settings.c ≤ length h.gains
  pub forces-long : r.settings.n * (2 * r.settings.c + 1) ≤ length h.forces
  pub table-long : r.settings.n * r.settings.f ≤ length h.table
  pub old-long : r.settings.n ≤ length h.old
  pub lists-long : is_tree r.settings.method ≡ true → Listed r.settings.n (length h.affinities) (length h.indices) h.offsets
  pub square-long : is_tree r.settings.method ≡ false → r.settings.n * r.settings.n ≤ length h.affinities

-- what the areas with a row for each frame are packed within
pub record ValuesRoom (s : Settings) (g keep : List ℕ) (p i v t : ℕ) : Type 0 where
  pub values-good : GoodSettings s
  pub values-gone : Climbs g
  pub values-keep : keep ≡ survivors g s.n
  pub p-long : s.n * s.c ≤ p
  pub i-long : s.n * s.c ≤ i
  pub v-long : s.n * s.c ≤ v
  pub t-long : s.n * s.f ≤ t

-- what the affinities are packed within
pub record LinksRoom (s : Settings) (keep : List ℕ) (a x : ℕ) (O : List ℕ) : Type 0 where
  pub links-most-frames : s.n ≤ most_frames
  pub links-climb : Climbs keep
  pub links-kept : Staying keep s.n
  pub links-lie : is_tree s.method ≡ true → Listed s.n a x O
  pub links-square : is_tree s.method ≡ false → s.n * s.n ≤ a

-- what all areas are packed within
pub record PackRoom (s : Settings) (g : List ℕ) (h : Holdings) : Type 0 where
  pub pack-good : GoodSettings s
  pub pack-gone : Climbs g
  pub pack-positions : s.n * s.c ≤ length h.positions
  pub pack-increments : s.n * s.c ≤ length h.increments
  pub pack-gains : s.n * s.c ≤ length h.gains
  pub pack-forces : s.n * (2 * s.c + 1) ≤ length h.forces
  pub pack-table : s.n * s.f ≤ length h.table
  pub pack-old : s.n ≤ length h.old
  pub pack-lists : is_tree s.method ≡ true → Listed s.n (length h.affinities) (length h.indices) h.offsets
  pub pack-square : is_tree s.method ≡ false → s.n * s.n ≤ length h.affinities
