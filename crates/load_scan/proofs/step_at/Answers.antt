use Rattle.load_word.specs.laws.Begun.{so}
use Rattle.load_scan.specs.laws.Steps.{blank_skipped, comment_skipped, wrong_byte}
use Rattle.load_scan.proofs.step_at.Goals as goal

pub quote_token-requires : goal.quote_token-requires
quote_token-requires c = record { short = c.requires.short.bytes; here = c.requires.here; begun = so c.begun_by.ensures c.in-Quote.is }

pub stop_token-requires : goal.stop_token-requires
stop_token-requires c = record { short = c.requires.short.bytes; here = c.requires.here; begun = so c.begun_by.ensures c.in-Stop.is }

pub word_token-requires : goal.word_token-requires
word_token-requires c = record { short = c.requires.short.bytes; here = c.requires.here; begun = so c.begun_by.ensures c.in-Word.is }

pub returns-in-Blank : goal.returns-in-Blank
returns-in-Blank c = blank_skipped (record { short = c.requires.short.bytes; here = c.requires.here; begun = so c.begun_by.ensures c.in-Blank.is })

pub returns-in-Comment : goal.returns-in-Comment
returns-in-Comment c = comment_skipped (record { short = c.requires.short.bytes; here = c.requires.here; begun = so c.begun_by.ensures c.in-Comment.is }) c.run_end.ensures

pub returns-in-Wrong : goal.returns-in-Wrong
returns-in-Wrong c = wrong_byte {s = c.args.s.now} {at = c.args.at} (record { short = c.requires.short.bytes; here = c.requires.here; begun = so c.begun_by.ensures c.in-Wrong.is })
