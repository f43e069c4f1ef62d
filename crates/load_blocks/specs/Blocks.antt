-- What the functions say that read a generic block: how it opens, and what is left of it then.
use Rattle.std.specs.Prelude.{Bool, true, false, [], ◌∷◌, ℕ, Option, Some, Result, Ok, Err}
use Rattle.spec_token.specs.declared.Kind.{Kind}
use Rattle.spec_token.specs.declared.Kind.TheVariants as kind
use Rattle.spec_grammar.specs.Reader.{Stack, once, perhaps, often, arguments, block, block_element, Depth, inner, behind, no_role}
use Rattle.load_elements.specs.declared.Parser.{Parser}
use Rattle.load_elements.specs.Reads.{Reads, Begun}
use Rattle.load_blocks.specs.declared.Opened.{Opened}
use Rattle.load_blocks.specs.declared.Opened.TheVariants as opened

abbrev pub is_number : Option Kind → Bool
is_number (Some kind.Int) = true
is_number (Some kind.Float) = true
is_number x = false

-- what follows "{" NAME "("
abbrev pub nested_elements : Stack
nested_elements = once arguments ∷ perhaps (block inner) ∷ often block_element ∷ no_role kind.CloseBrace ∷ []

-- what is still to come of a block that was opened
abbrev pub to_come : Depth → Opened → Stack
to_come d opened.One = behind d
to_come d opened.Done = []
to_come d opened.Nested = nested_elements

-- n tokens at least were read of the part l, up to what is still to come; or a token may not come
abbrev pub Opening : Depth → ℕ → Stack → Parser → Parser → Result Opened ℕ → Type 0
Opening d n l p p' (Ok o) = Begun n l (to_come d o) p p'
Opening d n l p p' (Err i) = Reads n l p p' (Err i)

-- the same wherever the block stands
pub record Opens (n : ℕ) (l : Depth → Stack) (p p' : Parser) (r : Result Opened ℕ) : Type 0 where
  pub at_depth : (d : Depth) → Opening d n (l d) p p' r
