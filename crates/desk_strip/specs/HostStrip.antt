-- Handing out the frames of an ended strip run, with record and answer as plain words. Definitions only.
-- a are the answer's words: word 0 tells the frames, or, refused, the place that comes with the number, 0 where none does.
use Rattle.std.specs.Prelude.{List, cond, ℕ, eqb, length, set, Ok, Err}
use Rattle.run_entry.specs.State.{Memory}
use Rattle.fault_words.specs.FaultWords.{fault_value}
use Rattle.hand_out.specs.declared.HandFault.{HandFault}
use Rattle.hand_out.specs.declared.HandFault.TheVariants.{Outside, Early, Barred, Short, Bad}
use Rattle.hand_out.specs.HandOut.{Handed, Handing, handed_out, hand_number}

unfoldable pub place_told : HandFault → ℕ
place_told Outside = 0
place_told Early = 0
place_told Barred = 0
place_told Short = 0
place_told (Bad f) = fault_value f

unfoldable pub hand_told : Handed → ℕ
hand_told (Ok n) = n
hand_told (Err e) = place_told e

-- the number, and order, gaps and answer as they are left
pub record HostHanded : Type 0 where
  pub number : ℕ
  pub order : List ℕ
  pub gaps : List ℕ
  pub answer : List ℕ

abbrev pub host_handed : ℕ → List ℕ → List ℕ → List ℕ → HostHanded
host_handed k o g a = record { number = k; order = o; gaps = g; answer = a }

abbrev pub handing_told : Handing → List ℕ → HostHanded
handing_told h a = host_handed (hand_number h.answer) h.order h.gaps (set a 0 (hand_told h.answer))

-- an answer without a word: 12, and nothing can be told
unfoldable pub host_strip : List ℕ → Memory → List ℕ → List ℕ → List ℕ → HostHanded
host_strip w m o g a = cond (eqb (length a) 0) (host_handed 12 o g a) (handing_told (handed_out w m o g) a)
