-- Frames taken out, with record and answer as plain words. Definitions only.
-- w are the record's words, a the answer's: word 0 tells how many are left, or, refused, the place that comes with the number, 0 where none does.
use Rattle.std.specs.Prelude.{List, cond, ℕ, length, set, Ok, Err}
use Rattle.run_record.specs.declared.Run.{Run}
use Rattle.tree_node.specs.declared.Node.{Node}
use Rattle.record_words.specs.RecordWords.{run_of, Worded}
use Rattle.fault_words.specs.FaultWords.{fault_value, unfit, unfit_told}
use Rattle.take_out.specs.declared.TakeFault.{TakeFault}
use Rattle.take_out.specs.declared.TakeFault.TheVariants.{Denied, Bad}
use Rattle.take_out.specs.TakeOut.{Holdings, TakeAnswer, TookOut, take_out, take_number}

abbrev pub take_fault_value : TakeFault → ℕ
take_fault_value (Denied d) = 0
take_fault_value (Bad f) = fault_value f

abbrev pub taken_told : TakeAnswer → ℕ
taken_told (Ok m) = m
taken_told (Err e) = take_fault_value e

-- the two words that a removal can change: the samples, and the units done in all
unfoldable pub size_put : Run → List ℕ → List ℕ
size_put r w = set (set w 0 r.settings.n) 12 r.units

-- the number, and answer, record and areas as they are left
pub record HostTook : Type 0 where
  pub number : ℕ
  pub answer : List ℕ
  pub run : List ℕ
  pub areas : Holdings

abbrev pub host_took : ℕ → List ℕ → List ℕ → Holdings → HostTook
host_took k a w h = record { number = k; answer = a; run = w; areas = h }

abbrev pub taken_in : TookOut → List ℕ → List ℕ → HostTook
taken_in o a w = host_took (take_number o.answer) (set a 0 (taken_told o.answer)) (size_put o.run w) o.areas

abbrev pub unfit_in : Worded → List ℕ → Holdings → HostTook
unfit_in k w h = host_took k.number k.words w h

-- an answer without a word: 12; words that are no record: 21 or 22; else as `take_out` has it, with the list g, the areas h and the nodes ns
unfoldable pub host_take : List ℕ → List ℕ → Holdings → List Node → List ℕ → HostTook
host_take g w h ns a = cond (unfit w (length a)) (unfit_in (unfit_told w a) w h) (taken_in (take_out g (run_of w) h ns) a w)
