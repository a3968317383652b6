-- What holds at the heads of the loops: over the counts of what was delivered.
use mathlib.Core.Path.{◌≡◌, ◌∙◌}
use mathlib.Core.List.{List}
use Prim.Native.Nat.{ℕ, ◌+◌, ◌*◌, ◌≤◌, ◌<◌}
use native.Mathlib.Omega.{arith}
use lib.ListN.{length, get_or}
use Rattle.image_bytes.specs.Bytes.{bytes}
use Rattle.image_bytes.specs.InternalPut.{put}
use Rattle.image_record_write.proofs.RecordBytes.{count_bytes, count_turn}

pub record CountsPut (s₀ : List ℕ) (at : ℕ) (d : List ℕ) (n : ℕ) (s : List ℕ) (k : ℕ) : Type 0 where
  pub below : k ≤ n
  pub few : n ≤ 4
  pub room : at + 12 + 4 * n ≤ length s₀
  pub buffer_length : length s ≡ length s₀
  pub counts_length : length d ≡ 4
  pub written : s ≡ put s₀ (at + 12) (count_bytes k d)

-- a turn over the counters
pub counts_turn : {s₀ : List ℕ} {at : ℕ} {d : List ℕ} {n : ℕ} {s : List ℕ} {k : ℕ} → CountsPut s₀ at d n s k → k < n → (s' : List ℕ) → length s' ≡ length s → s' ≡ put s (at + 12 + 4 * k) (bytes 4 (get_or d k 0)) → CountsPut s₀ at d n s' (k + 1)
counts_turn {s₀} {at} {d} {n} {s} {k} p l s' e q = record {
  below = omega arith;
  few = p.few;
  room = p.room;
  buffer_length = e ∙ p.buffer_length;
  counts_length = p.counts_length;
  written = count_turn s₀ s s' (at + 12) k d (omega arith) p.written q;
}
