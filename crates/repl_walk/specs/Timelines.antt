-- Two assignments of timelines to pages that are one on a part of the log.
use Rattle.std.specs.Prelude.{◌≡◌, ℕ, ◌+◌, ◌<◌, ◌≤◌}
use Rattle.repl_page.specs.Page.{IsPage}

-- each page that starts in so many bytes from this position on is on the same timeline by both
abbrev pub AreAlike : (ℕ → ℕ) → (ℕ → ℕ) → ℕ → ℕ → Type 0
AreAlike timeline other from count = (page : ℕ) → IsPage page → from ≤ page → page < from + count → timeline page ≡ other page
