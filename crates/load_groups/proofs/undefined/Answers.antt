use Rattle.std.proofs.Common.{rules, ◌≡◌, ◌&&◌, ◌∙◌, sym, length, take, get_or, position, is_none}
use Rattle.std.proofs.Math.Seq.{length-take-le}
use Rattle.spec_lists.specs.Text.{same}
use Rattle.spec_grammar.specs.Codes.{same_role}
use Rattle.spec_file.specs.Refusal.{undefined}
use Rattle.load_tokens.specs.Views.{blank}
use Rattle.load_spans.specs.Spans.{AmongTokens, text_of}
use Rattle.load_spans.specs.laws.Tokens.{sought}
use Rattle.load_groups.specs.laws.Undefined.{defined_room, defined_among, undefined_tells}
use Rattle.load_groups.proofs.undefined.Goals as goal

pub slice_bounds-defined-end : goal.slice_bounds-defined-end
slice_bounds-defined-end c =
    let r = c.requires.role_code in
    defined_room c.args.t.now.text.now c.args.t.now.list.now c.args.named c.args.defining r.0 r.1 r.2 c.collect-k.ensures c.requires.room

pub slice_bounds-defined-end-2 : goal.slice_bounds-defined-end-2
slice_bounds-defined-end-2 c =
    let r = c.requires.role_code in
    sym
    (length-take-le _ _
    (defined_room c.args.t.now.text.now c.args.t.now.list.now c.args.named c.args.defining r.0 r.1 r.2 c.collect-k.ensures c.requires.room))

pub first-requires : goal.first-requires
first-requires c =
    let r = c.requires.role_code in
    let p : AmongTokens (take c.collect-k.result c.collect-k.new.names) (length c.args.t.now.list.now) =
    defined_among c.args.t.now.text.now c.args.t.now.list.now c.args.named c.args.defining r.0 r.1 r.2 c.collect-k.ensures c.requires.room
    in
    λ i h. search (rules, p)

pub returns : goal.returns
returns c =
    let r = c.requires.role_code in
    let s = c.args.t.now.text.now in
    let ts = c.args.t.now.list.now in
    sought (undefined c.args.named c.args.defining) s ts c.first.ensures
    (λ i b h e.
    let z :
    b
    ≡ (same_role (get_or ts i blank).role c.args.named
    && is_none (position (λ name. same (text_of s ts name) (text_of s ts i)) (take c.collect-k.result c.collect-k.new.names))) = search rules
    in
    z ∙ undefined_tells s ts c.args.named c.args.defining r.0 r.1 r.2 c.collect-k.ensures c.requires.room i h)
