-- An entry as it is kept.
use Rattle.std.specs.Prelude.{◌<◌}
use Rattle.spec_grammar.specs.declared.Role.TheVariants as role
use Rattle.load_tokens.specs.declared.Token.{Token}
use Rattle.load_scan.specs.declared.Entry.{Entry}

abbrev pub kept_as : Entry → Token
kept_as t = record { kind = t.kind; role = role.NoRole; place = t.place; start = t.start; end = t.end }

-- and back, but for what the token says
abbrev pub entry_of : Token → Entry
entry_of t = record { kind = t.kind; place = t.place; start = t.start; end = t.end }

-- the numbers fit 16 bits
pub record Small (t : Entry) : Type 0 where
  pub place : t.place < 65536
  pub start : t.start < 65536
  pub end : t.end < 65536
