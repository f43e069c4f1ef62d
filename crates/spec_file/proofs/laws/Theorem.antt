-- A text is accepted exactly if it is acceptable, and for what it says; else the first refusal in turn is answered, at its earliest place.
use Rattle.std.proofs.Math.Path.{◌≡◌, refl, ap, subst₂}
use Rattle.std.proofs.Common.{sym, ◌∙◌, arith}
use Rattle.std.specs.Prelude.{Bool, ℕ, length}
use Rattle.std.proofs.Math.Bool.{true, false, cond}
use mathlib.Core.List.{List}
use Rattle.std.proofs.Math.Option.{Option, none, some}
use Rattle.std.proofs.Math.Dec.{leb}
use borrow.Author.Tests.{leb-true, leb-false, le-leb, lt-leb}
use Rattle.spec_token.specs.Token.{Token, Tokens, tokens, bad}
use Rattle.spec_token.specs.Scanner.{scanned}
use Rattle.spec_token.proofs.laws.Agreement.{scanned_sound, scanned_complete}
use Rattle.spec_grammar.specs.Sentence.{Tagged}
use Rattle.spec_grammar.specs.Reader.{Parse, parsed, stopped, read}
use Rattle.spec_grammar.proofs.laws.Theorem.{read_sound, read_complete, read_stops}
use Rattle.spec_grammar.proofs.laws.OneStop.{stops_read}
use Rattle.spec_file.specs.declared.Refusal.{Refusal}
use Rattle.spec_file.specs.declared.Refusal.TheVariants.{FileTooLong, BadByte, TooDeep, Ungrammatical}
use Rattle.spec_file.specs.Limit.{most_bytes}
use Rattle.spec_file.specs.Depth.{too_deep}
use Rattle.spec_file.specs.Refusal.{contexts}
use Rattle.spec_file.proofs.laws.Causes.{nowhere, unanswered, caused_by, caused_is}
use Rattle.spec_file.specs.Acceptance.{TextReads, Nowhere, Acceptable, HasCause, bad_byte, deep_brace, no_file, for_cause, Refusable, long_file, in_limit}
use Rattle.spec_file.specs.Load.{RefusalAt, causes, refused_by, refuse, accept, by_causes, by_grammar, by_depth, by_tokens, verdict}

never_accepts : {A : Type 0} (r : Refusal) (p : ℕ) (xs : List Tagged) → refuse r p ≡ accept xs → A
never_accepts r p xs e = let z : ◌≡◌ {A = ℕ} 0 1 = cc in absurd (omega arith)

-- ---- the verdict

module _ (s : List ℕ) (xs : List Tagged) where
  -- what is accepted is acceptable
  pub accepted_is : verdict s ≡ accept xs → Acceptable s xs
  unfolding verdict
  accepted_is e = go_length (leb (length s) most_bytes) refl e
    where
      go_causes :
          (ts : List Token) (ys : List Tagged) (o : Option RefusalAt) → leb (length s) most_bytes ≡ true → scanned s ≡ tokens ts → too_deep 0 ts ≡ none
          → read ts (length s) ≡ parsed ys → refused_by causes (contexts ys) ≡ o → by_causes ys o ≡ accept xs → Acceptable s xs
      go_causes ts ys none l a d r c h =
          let same : ys ≡ xs = cc in
          record {
            short = leb-true (length s) most_bytes l;
            as_read = record { spelled = ts; spelling = scanned_sound s (tokens ts) a; reading = read_sound ts (length s) xs (r ∙ ap parsed same) };
            shallow = d;
            uncaused = nowhere (contexts xs) (ap (λ (zs : List Tagged). refused_by causes (contexts zs)) (sym same) ∙ c);
          }
      go_causes ts ys (some r) l a d q c h = never_accepts r.refusal r.place xs h

      go_read :
          (ts : List Token) (o : Parse) → leb (length s) most_bytes ≡ true → scanned s ≡ tokens ts → too_deep 0 ts ≡ none → read ts (length s) ≡ o
          → by_grammar o ≡ accept xs → Acceptable s xs
      go_read ts (parsed ys) l a d r h = go_causes ts ys (refused_by causes (contexts ys)) l a d r refl h
      go_read ts (stopped p) l a d r h = never_accepts Ungrammatical p xs h

      go_deep :
          (ts : List Token) (o : Option ℕ) → leb (length s) most_bytes ≡ true → scanned s ≡ tokens ts → too_deep 0 ts ≡ o
          → by_depth o (read ts (length s)) ≡ accept xs → Acceptable s xs
      go_deep ts none l a d h = go_read ts (read ts (length s)) l a d refl h
      go_deep ts (some p) l a d h = never_accepts TooDeep p xs h

      go_tokens : (t : Tokens) → leb (length s) most_bytes ≡ true → scanned s ≡ t → by_tokens (length s) t ≡ accept xs → Acceptable s xs
      go_tokens (tokens ts) l a h = go_deep ts (too_deep 0 ts) l a refl h
      go_tokens (bad p) l a h = never_accepts BadByte p xs h

      go_length : (b : Bool) → leb (length s) most_bytes ≡ b → cond b (by_tokens (length s) (scanned s)) (refuse FileTooLong 0) ≡ accept xs → Acceptable s xs
      go_length true l h = go_tokens (scanned s) l refl h
      go_length false l h = never_accepts FileTooLong 0 xs h

  -- what is read without a cause is accepted, its length aside
  pub free_is : (t : TextReads s xs) → too_deep 0 t.spelled ≡ none → ((r : Refusal) → Nowhere r (contexts xs)) → by_tokens (length s) (scanned s) ≡ accept xs
  free_is t d u =
      rw (
        scanned_complete s (tokens t.spelled) t.spelling,
        d,
        read_complete t.spelled (length s) xs t.reading,
        unanswered (contexts xs) u,
      )

  -- what is acceptable is accepted
  pub acceptable_is : Acceptable s xs → verdict s ≡ accept xs
  unfolding verdict
  acceptable_is a = rw (le-leb (length s) most_bytes a.short, free_is a.as_read a.shallow a.uncaused)

-- ---- refusals

module _ (s : List ℕ) (r : Refusal) (p : ℕ) where
  caused_so : (q : Refusal) (o : ℕ) → refuse q o ≡ refuse r p → HasCause s q o → HasCause s r p
  caused_so q o e w = let a : q ≡ r = cc in let b : o ≡ p = cc in subst₂ (HasCause s) a b w

  -- what the tokens are refused for is the first cause in turn, at its earliest place
  pub refused_for : by_tokens (length s) (scanned s) ≡ refuse r p → HasCause s r p
  refused_for e = by_scan (scanned s) refl e
    where
      by_cause :
          (ts : List Token) (xs : List Tagged) (o : Option RefusalAt) → scanned s ≡ tokens ts → too_deep 0 ts ≡ none → read ts (length s) ≡ parsed xs
          → refused_by causes (contexts xs) ≡ o → by_causes xs o ≡ refuse r p → HasCause s r p
      by_cause ts xs none a d q c h = never_accepts r p xs (sym h)
      by_cause ts xs (some x) a d q c h =
          caused_so
          x.refusal
          x.place h
          (for_cause (record { spelled = ts; spelling = scanned_sound s (tokens ts) a; reading = read_sound ts (length s) xs q }) d (caused_by xs c))

      by_read :
          (ts : List Token) (o : Parse) → scanned s ≡ tokens ts → too_deep 0 ts ≡ none → read ts (length s) ≡ o → by_grammar o ≡ refuse r p
          → HasCause s r p
      by_read ts (parsed xs) a d q h = by_cause ts xs (refused_by causes (contexts xs)) a d q refl h
      by_read ts (stopped o) a d q h = caused_so Ungrammatical o h (no_file (scanned_sound s (tokens ts) a) d (read_stops ts (length s) o q))

      by_braces :
          (ts : List Token) (o : Option ℕ) → scanned s ≡ tokens ts → too_deep 0 ts ≡ o → by_depth o (read ts (length s)) ≡ refuse r p → HasCause s r p
      by_braces ts none a d h = by_read ts (read ts (length s)) a d refl h
      by_braces ts (some o) a d h = caused_so TooDeep o h (deep_brace (scanned_sound s (tokens ts) a) d)

      by_scan : (t : Tokens) → scanned s ≡ t → by_tokens (length s) t ≡ refuse r p → HasCause s r p
      by_scan (tokens ts) a h = by_braces ts (too_deep 0 ts) a refl h
      by_scan (bad o) a h = caused_so BadByte o h (bad_byte (scanned_sound s (bad o) a))

  pub refused_is : verdict s ≡ refuse r p → Refusable s r p
  unfolding verdict
  refused_is e = by_length (leb (length s) most_bytes) refl e
    where
      by_length : (b : Bool) → leb (length s) most_bytes ≡ b → cond b (by_tokens (length s) (scanned s)) (refuse FileTooLong 0) ≡ refuse r p → Refusable s r p
      by_length true l h = in_limit (leb-true (length s) most_bytes l) (refused_for h)
      by_length false l h =
          let a : FileTooLong ≡ r = cc in let b : ◌≡◌ {A = ℕ} 0 p = cc in
          subst₂ (Refusable s) a b (long_file (leb-false (length s) most_bytes l))

-- ---- and the other way round: a text is refusable for one number at one place, and so refused

pub cause_is : (s : List ℕ) (r : Refusal) (p : ℕ) → HasCause s r p → by_tokens (length s) (scanned s) ≡ refuse r p
cause_is s r p (bad_byte a) = rw (scanned_complete s (bad p) a)
cause_is s r p (deep_brace {ts = ts} a d) = rw (scanned_complete s (tokens ts) a, d)
cause_is s r p (no_file {ts = ts} a d h) = rw (scanned_complete s (tokens ts) a, d, stops_read ts (length s) p h)
cause_is s r p (for_cause {xs = xs} t d c) =
    rw (scanned_complete s (tokens t.spelled) t.spelling, d, read_complete t.spelled (length s) xs t.reading, caused_is xs c)

pub refusable_is : (s : List ℕ) (r : Refusal) (p : ℕ) → Refusable s r p → verdict s ≡ refuse r p
unfolding verdict
refusable_is s r p (long_file l) = rw (lt-leb (length s) most_bytes l)
refusable_is s r p (in_limit l c) = rw (le-leb (length s) most_bytes l, cause_is s r p c)
