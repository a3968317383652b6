-- What may stand for an unfinished line while the rest of it is awaited. Assumes nothing.
use Rattle.std.specs.Prelude.{◌≡◌, List, ◌++◌, ℕ, ◌≤◌, ◌<◌, length}
use Rattle.console_words.specs.Text.{nth_word}
use Rattle.console_parse.specs.Line.{remark}

-- at most 401 bytes: the line itself, or, of a longer one, 401 bytes that are a remark where the line is one, whatever comes after
pub record Kept (line part : List ℕ) : Type 0 where
  pub whole : length line ≤ 401 → part ≡ line
  pub cut : 401 < length line → length part ≡ 401
  pub remarks : (more : List ℕ) → remark (nth_word 0 (part ++ more)) ≡ remark (nth_word 0 (line ++ more))
