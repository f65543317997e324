-- Which views are apart from what is published.
use Rattle.std.specs.Prelude.{ℕ, ◌==◌, Bool, not, length}
use Rattle.published_table.specs.{Views.{seen}, declared.view.View.{View}}

-- a view whose log isn't so long
abbrev pub is_apart : ℕ → View → Bool
is_apart published view = not (length (seen view) == published)
