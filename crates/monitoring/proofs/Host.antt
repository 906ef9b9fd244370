-- The two calls in words: a refusal changes nothing but the answer's word. Assumes nothing.
use mathlib.Core.Path.{◌≡◌, refl, ap}
use mathlib.Core.List.{List}
use Prim.Native.Nat.{ℕ}
use lib.Dec.{eqb}
use lib.ListN.{length, set}
use Rattle.laws.proofs.Bools.{by_bool}
use Rattle.monitor_read.specs.MonitorRead.{MonitorReading, read_monitor, monitor_read_number}
use Rattle.desk_monitor.specs.HostWrite.{host_monitor_write}
use Rattle.desk_monitor.specs.HostRead.{monitor_read_told, host_monitor_reading, host_monitor_read}
use Rattle.monitoring.proofs.WriteTold.{write-refused}
use Rattle.monitoring.proofs.ReadTold.{read-refused}

-- writing that answers a number leaves the target as it was
pub host-write-refused : (n : ℕ) (P S B X t a : List ℕ) → ((host_monitor_write n P S B X t a).number ≡ 0 → ⊥) → (host_monitor_write n P S B X t a).target ≡ t
unfolding host_monitor_write
host-write-refused n P S B X t a = by_bool (((host_monitor_write n P S B X t a).number ≡ 0 → ⊥) → (host_monitor_write n P S B X t a).target ≡ t) (eqb (length a) 0)
    (λ e. rw e (λ z. refl))
    (λ e. rw e (write-refused n P S B X t))

-- reading that answers a number leaves all four areas as they were
pub host-read-refused : (f P S B X a : List ℕ) → ((host_monitor_read f P S B X a).number ≡ 0 → ⊥)
    → host_monitor_read f P S B X a ≡ host_monitor_reading (host_monitor_read f P S B X a).number P S B X (host_monitor_read f P S B X a).answer
unfolding host_monitor_read
host-read-refused f P S B X a = by_bool
    (((host_monitor_read f P S B X a).number ≡ 0 → ⊥)
    → host_monitor_read f P S B X a ≡ host_monitor_reading (host_monitor_read f P S B X a).number P S B X (host_monitor_read f P S B X a).answer) (eqb (length a) 0)
    (λ e. rw e (λ z. refl))
    (λ e. rw e (λ z. ap (λ (o : MonitorReading). host_monitor_reading (monitor_read_number (read_monitor f P S B X).answer) o.pictures o.sides o.fields o.positions
    (set a 0 (monitor_read_told (read_monitor f P S B X).answer))) (read-refused f P S B X z)))
