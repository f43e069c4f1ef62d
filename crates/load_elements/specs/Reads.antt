-- What a parser's function says: which kind it sees where it stands, and what the rest of the file comes to.
use Rattle.std.specs.Prelude.{◌≡◌, Bool, false, cond, ◌||◌, List, ◌++◌, map, ℕ, ◌+◌, ◌-◌, ◌≤◌, length, take, drop, slice_get, IfOk}
use Rattle.std.specs.Prelude.{Option, Some, None, Result, Ok, Err}
use Rattle.std.specs.Option.{option_map}
use Rattle.spec_token.specs.declared.Kind.{Kind}
use Rattle.spec_token.specs.declared.Kind.TheVariants.{Int, Float}
use Rattle.spec_grammar.specs.declared.Role.{Role}
use Rattle.spec_grammar.specs.Codes.{kind_number, same_kind}
use Rattle.spec_grammar.specs.Production.{◌tagged◌}
use Rattle.spec_grammar.specs.Reader.{Stack, Entry, once, token}
use Rattle.load_tokens.specs.declared.Token.{Token}
use Rattle.load_tokens.specs.Names.{is_name}
use Rattle.load_tokens.specs.Views.{kept}
use Rattle.load_elements.specs.declared.Parser.{Parser}
use Rattle.load_elements.specs.Parse.{Parsed, stopped_at, parse_from}

abbrev pub kinds_of : List Token → List Kind
kinds_of ts = map (λ (t : Token). t.kind) ts

abbrev pub roles_of : List Token → List Role
roles_of ts = map (λ (t : Token). t.role) ts

-- the kind of the token that stands next; none at the end
abbrev pub kind_of : List Token → ℕ → Option Kind
kind_of ts i = option_map (λ (t : Token). t.kind) (slice_get ts i)

abbrev pub kind_at : Parser → Option Kind
kind_at p = kind_of p.tokens.now p.at

-- whether it is this kind
abbrev pub is_next : Kind → Option Kind → Bool
is_next k None = false
is_next k (Some x) = same_kind x k

-- the kind, if an element may have it as its name
abbrev pub name_of : Option Kind → Option Kind
name_of None = None
name_of (Some x) = cond (is_name (kind_number x)) (Some x) None

-- a generic_element: a name or a number
abbrev pub is_element : Option Kind → Bool
is_element None = false
is_element (Some x) = is_name (kind_number x) || (same_kind x Int || same_kind x Float)

-- what the whole file comes to, if the stack k is still to come and the roles are right up to where the parser stands
unfoldable pub parse_on : List Token → ℕ → Stack → Parsed
parse_on ts i k = parse_from k i (roles_of (take i ts)) (kinds_of (drop i ts))

-- the same behind a function; or where parsing stopped
unfoldable pub parse_at : Parser → Result Unit ℕ → Stack → Parsed
parse_at p (Ok u) k = parse_on p.tokens.now p.at k
parse_at p (Err i) k = stopped_at i

-- a token of this kind with this role
abbrev pub expected : Kind → Role → Entry
expected k r = once (token (k tagged r))

-- if k is still to come, the whole file comes to x
pub record Leads (p : Parser) (k : Stack) (x : Parsed) : Type 0 where
  pub same : parse_on p.tokens.now p.at k ≡ x

-- how many tokens are left
unfoldable pub left : Parser → ℕ
left p = length p.tokens.now - p.at

-- The stack l was read, with d tokens at least. Nothing but roles was written, in the tokens that the parser was given.
pub record Reads (d : ℕ) (l : Stack) (p p' : Parser) (r : Result Unit ℕ) : Type 0 where
  pub leads : (k : Stack) → Leads p (l ++ k) (parse_at p' r k)
  pub others : kept p'.tokens.now ≡ kept p.tokens.now
  pub fewer : IfOk r (λ u. left p' + d ≤ left p)
  pub lent : p'.tokens.ghost_name ≡ p.tokens.ghost_name

-- of the stack l, which was to be read from p on, m is still to come at p'; d tokens at least were read
pub record Begun (d : ℕ) (l m : Stack) (p p' : Parser) : Type 0 where
  pub leads : (k : Stack) → Leads p (l ++ k) (parse_at p' (Ok tt) (m ++ k))
  pub others : kept p'.tokens.now ≡ kept p.tokens.now
  pub fewer : left p' + d ≤ left p
  pub lent : p'.tokens.ghost_name ≡ p.tokens.ghost_name
