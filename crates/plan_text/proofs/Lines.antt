-- The process lines, one after another.
-- Assumes nothing.
use mathlib.Core.Path.{◌≡◌}
use mathlib.Core.List.{List}
use Prim.Native.Nat.{ℕ, ◌+◌}
use native.Mathlib.Numerals.{add-one}
use Rattle.event_log.specs.Model.{Workers, role_of}
use Rattle.plan_text.specs.Text.{process_line, process_lines}
use Rattle.plan_text.specs.Buffer.{Adds}

module _ (log : Workers) (words upper : List ℕ) where
  pub lines_none : (before : List ℕ) (at : ℕ) → Adds before at before at (λ text. process_lines text log words upper 0)
  unfolding process_lines
  lines_none before at lent text h = h

  pub lines_more : (before mid after : List ℕ) (at k next w role : ℕ) → role ≡ role_of log w
      → Adds before at mid k (λ text. process_lines text log words upper w)
      → Adds mid k after next (λ text. process_line text role words upper w)
      → Adds before at after next (λ text. process_lines text log words upper (w + 1))
  unfolding process_lines
  lines_more before mid after at k next w role same first then lent text h =
      rw (add-one w, ← same) (then lent (process_lines text log words upper w) (first lent text h))
