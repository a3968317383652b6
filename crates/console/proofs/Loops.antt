-- What holds at the head of the loop over the reads.
use Rattle.std.proofs.Common.{◌≡◌, ℕ, ◌≤◌, List, length}

pub record LinesObeyed (buf₀ buf : List ℕ) (kept : ℕ) : Type 0 where
  pub kept_small : kept ≤ 401
  pub buffer_length : length buf ≡ length buf₀
