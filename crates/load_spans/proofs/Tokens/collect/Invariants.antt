use Rattle.std.proofs.Common.{length}
use Rattle.spec_grammar.specs.Codes.{role_number}
use Rattle.load_tokens.specs.Views.{roles}
use Rattle.load_spans.specs.Listed.{ToList}
use Rattle.load_spans.proofs.Tokens.collect.Given as goal

abbrev pub invariant-loop-i : goal.invariant-loop-i
invariant-loop-i l = ToList (role_number l.role) (roles l.self.list.now) l.initial.names (length l.self.list.now) l.names l.k l.i
