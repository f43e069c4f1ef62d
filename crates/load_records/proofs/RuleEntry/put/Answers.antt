use Rattle.std.proofs.Common.{◌≡◌, cond, ltb, List, [], ◌∷◌, ℕ, ◌+◌, ◌∙◌, ap, sym, add-zero, length, arith, lt-ltb, le-ltb}
use Rattle.spec_grammar.specs.declared.Role.TheVariants.{Calculation, UagNamed, HagNamed}
use Rattle.spec_grammar.specs.Sentence.{Tagged}
use Rattle.spec_file.specs.Contents.{rule_text}
use Rattle.spec_table.specs.Written.{flags}
use Rattle.load_flags.specs.Tokens.{first_text}
use Rattle.load_records.specs.laws.Cursors.{emitted}
use Rattle.load_records.specs.laws.Rules.{rule_words}
use Rattle.load_records.specs.laws.Steps.{calculation_at, count_cut, cut_part}
use Rattle.load_records.proofs.RuleEntry.put.Goals as goal
use Rattle.load_records.proofs.RuleEntry.put.Goals.{then-j-e, else-j-e}

pub returns : goal.returns
returns c =
    let a = c.args in
    let t = a.tokens.now in
    let pre = c.requires.ready in
    let e = c.end_of-e.result in
    let end = c.end_of-e.ensures.end in
    let users = count_cut t a.role UagNamed (a.i + 1) a.to e pre.head (record { some = omega arith; known = omega arith }) c.count-users.result end c.count-users.ensures.exact in
    let hosts = count_cut t a.role HagNamed (a.i + 1) a.to e pre.head (record { some = omega arith; known = omega arith }) c.count-hosts.result end c.count-hosts.ensures.exact in
    let cut = cut_part t a.role Calculation (a.i + 1) a.to e pre.head pre.part end in
    let long = ap length (c.first_text-len.ensures ∙ ap (λ (x : List Tagged). first_text Calculation x) (sym cut)) in
    let at : c.if-j-e.calculation ≡ cond (ltb c.next-j.result e) a.p.string 0 = elim c.if-j-e.branch [ then-j-e w ↦ rw (lt-ltb c.next-j.result e w.if-j-e.true) w.calculation-is | else-j-e w ↦ rw (le-ltb c.next-j.result e w.if-j-e.false) w.calculation-is ] in
    emitted
    c.put_words-at.ensures
    (rule_words a.p.first
    (c.flags_of-flags.ensures ∙ ap (λ (x : List Tagged). flags (rule_text x)) (sym cut))
    users
    hosts
    (ap (λ (k : ℕ). k ∷ length c.first_text-len.result.now ∷ []) at
    ∙ calculation_at t a.role Calculation (a.i + 1) a.to e pre.head pre.part c.next-j.result a.p.string (length c.first_text-len.result.now) end c.next-j.ensures long))
    (ap (λ (n : ℕ). a.p.string + n) long)
    (omega (arith, users, hosts))
    (sym (add-zero _))
