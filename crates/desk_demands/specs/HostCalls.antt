-- Work calls one after the other, with the record as words, from what a call has left. Definitions only.
use Rattle.std.specs.Prelude.{List, [], ◌∷◌, ℕ, ◌+◌}
use Rattle.tree_node.specs.declared.Cell.{Cell}
use Rattle.laws.specs.Area.{num}
use Rattle.run_entry.specs.State.{State, state}
use Rattle.descent.specs.Longer.{lent_arena}
use Rattle.record_words.specs.RecordWords.{run_of}
use Rattle.desk_work.specs.HostWork.{HostWorked, host_worked, host_work}

-- what is worked on, as the words say it
abbrev pub host_state : HostWorked → State
host_state h = state (run_of h.run) h.memory

abbrev pub host_next : ℕ → HostWorked → HostWorked
host_next b h = host_work b h.run h.answer h.memory

unfoldable pub host_works : List ℕ → HostWorked → HostWorked
host_works [] h = h
host_works (b ∷ bs) h = host_works bs (host_next b h)

-- the same with other cells lent as the arena
abbrev pub in_cells : List Cell → HostWorked → HostWorked
in_cells cs h = host_worked h.number h.answer h.run (lent_arena cs (host_state h)).memory

-- the units that their answers tell, together
unfoldable pub host_told : List ℕ → HostWorked → ℕ
host_told [] h = 0
host_told (b ∷ bs) h = num (host_next b h).answer 2 + host_told bs (host_next b h)
