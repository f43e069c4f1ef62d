-- What the reader answers is what the grammar's reading of the kept tokens comes to.
use Rattle.std.specs.Prelude.{◌≡◌, Bool, ltb, take, drop}
use Rattle.std.proofs.Math.Path.{refl, sym, ap}
use Rattle.std.specs.Prelude.{Result, Ok, Err}
use Rattle.std.proofs.Common.{◌∙◌, drop-cons, get_or-take, take_all, lt-ltb, le-ltb}
use Rattle.std.proofs.Math.Bool.{true, false, cond}
use mathlib.Core.List.{List, [], ◌∷◌, ◌++◌, append_assoc, append-nil}
use Prim.Native.Nat.{ℕ, zero, suc, ◌+◌, ◌≤◌}
use native.Mathlib.Omega.{arith}
use Rattle.std.proofs.Math.ListN.{length, get_or, length-append, get_or-map}
use Rattle.std.proofs.lemmas.List.{get_or_at}
use Rattle.spec_grammar.specs.declared.Role.{Role}
use Rattle.spec_grammar.specs.declared.Role.TheVariants as role
use Rattle.spec_grammar.specs.Sentence.{Tagged}
use Rattle.spec_grammar.specs.Reader.{Stack, Step, halt, go, step, may_end, Parse, parsed, stopped, joined_to, onward, read_from, read, start}
use Rattle.load_tokens.specs.Arrays.{kind_of_number, role_of_number, Arrays, token_at, tokens_from, tagged_at, tagged_from}
use Rattle.load_elements.specs.Parse.{Parsed, parsed, stopped_at, parse_step, parse_from, parse}
use Rattle.spec_token.specs.declared.Kind.{Kind}
use Rattle.load_tokens.specs.declared.Token.{Token}
use Rattle.load_tokens.specs.Views.{kinds, places, roles, kept, blank}
use Rattle.load_tokens.specs.laws.Arrays.{kind_back, role_back}
use Rattle.load_tokens.specs.laws.Views.{kind_at, role_at}
use Rattle.load_elements.specs.Reads.{kinds_of, roles_of}
use Rattle.load_parse.specs.Reads.{Answers}

-- a parse that stops is no parse to the end
apart : {i : ℕ} {rs : List Role} {A : Type 0} → stopped_at i ≡ parsed rs → A
apart e = let z : ◌≡◌ {A = ℕ} 0 1 = cc in absurd (omega arith)

-- the roles begin with those that were there before
ends_with : (xs : List Kind) (k : Stack) (i : ℕ) (done rs : List Role) → parse_from k i done xs ≡ parsed rs → (t : List Role) × (rs ≡ done ++ t)
unfolding parse_from
ends_with [] k i done rs e = end (may_end k) e
  where
    end : (b : Bool) → cond b (parsed done) (stopped_at i) ≡ parsed rs → (t : List Role) × (rs ≡ done ++ t)
    end true q = let g : rs ≡ done = cc in ([], g ∙ sym (append-nil done))
    end false q = apart q
ends_with (x ∷ xs) k i done rs e = by (step k x) e (λ j r. ends_with xs j (suc i) (done ++ (r ∷ [])) rs)
  where
    by : (y : Step) → parse_step y i (λ j r. parse_from j (suc i) (done ++ (r ∷ [])) xs) ≡ parsed rs
        → ((j : Stack) (r : Role) → parse_from j (suc i) (done ++ (r ∷ [])) xs ≡ parsed rs → (t : List Role) × (rs ≡ (done ++ (r ∷ [])) ++ t))
        → (t : List Role) × (rs ≡ done ++ t)
    by halt q ih = apart q
    by (go r j) q ih = let v = ih j r q in (r ∷ v.0, v.1 ∙ append_assoc done (r ∷ []) v.0)

-- the first of n kinds from i on
first_of :
    (ts : List Token) (i n : ℕ) → i + suc n ≤ length ts
    → kinds_of (take (suc n) (drop i ts)) ≡ kind_of_number (get_or (kinds ts) i 0) ∷ kinds_of (take n (drop (suc i) ts))
first_of ts i n h =
    let k : (get_or ts i blank).kind ≡ kind_of_number (get_or (kinds ts) i 0) =
    sym (ap kind_of_number (kind_at ts i) ∙ kind_back (get_or ts i blank).kind) in
    ap (λ (l : List Token). kinds_of (take (suc n) l)) (drop-cons ts i blank (omega arith))
    ∙ ap (λ (x : Kind). x ∷ kinds_of (take n (drop (suc i) ts))) k

-- the role that stands at i
role_there : (us : List Token) (i : ℕ) → get_or (roles_of us) i role.NoRole ≡ role_of_number (get_or (roles us) i 0)
role_there us i =
    get_or-map (λ (t : Token). t.role) us i blank ∙ sym (ap role_of_number (role_at us i) ∙ role_back (get_or us i blank).role)

-- only the first n roles are looked at
module _ (s : List ℕ) (a : Arrays) where
  tagged_take : (roles : List ℕ) (n k i : ℕ) → i + k ≤ n → tagged_from s a (take n roles) i k ≡ tagged_from s a roles i k
  unfolding tagged_from
  tagged_take roles n zero i h = refl
  tagged_take roles n (suc k) i h =
      ap (λ (x : ℕ). record { token = token_at s a i; role = role_of_number x } ∷ tagged_from s a (take n roles) (suc i) k)
      (get_or-take n roles i 0 (omega arith))
      ∙ ap (λ (l : List Tagged). tagged_at s a roles i ∷ l) (tagged_take roles n k (suc i) (omega arith))

-- tokens ts of a text s of length m
module _ (s : List ℕ) (ts : List Token) (m : ℕ) where
  -- n kinds from the i-th on, parsed
  abbrev parse_part : Stack → ℕ → List Role → ℕ → Parsed
  parse_part k i done n = parse_from k i done (kinds_of (take n (drop i ts)))

  -- read to the end: the roles are those that were written
  read_parsed :
      (n : ℕ) (k : Stack) (i : ℕ) (done : List Role) (us : List Token) → length done ≡ i → i + n ≤ length ts
      → parse_part k i done n ≡ parsed (roles_of us) → read_from k (tokens_from s (kept ts) i n) m ≡ parsed (tagged_from s (kept ts) (roles us) i n)
  unfolding parse_from tokens_from tagged_from
  read_parsed zero k i done us l h e = end (may_end k) e
    where
      end : (b : Bool) → cond b (parsed done) (stopped_at i) ≡ parsed (roles_of us) → cond b (parsed []) (stopped m) ≡ parsed []
      end true q = refl
      end false q = apart q
  read_parsed (suc n) k i done us l h e =
      by (step k (kind_of_number (get_or (kinds ts) i 0))) (sym (ap (parse_from k i done) (first_of ts i n h)) ∙ e)
      (λ j r. read_parsed n j (suc i) (done ++ (r ∷ [])) us)
    where
      by : (y : Step) → parse_step y i (λ j r. parse_part j (suc i) (done ++ (r ∷ [])) n) ≡ parsed (roles_of us)
          → ((j : Stack) (r : Role) → length (done ++ (r ∷ [])) ≡ suc i → suc i + n ≤ length ts
          → parse_part j (suc i) (done ++ (r ∷ [])) n ≡ parsed (roles_of us)
          → read_from j (tokens_from s (kept ts) (suc i) n) m ≡ parsed (tagged_from s (kept ts) (roles us) (suc i) n))
          → onward y (token_at s (kept ts) i) (λ j. read_from j (tokens_from s (kept ts) (suc i) n) m)
          ≡ parsed (tagged_at s (kept ts) (roles us) i ∷ tagged_from s (kept ts) (roles us) (suc i) n)
      by halt q ih = apart q
      by (go r j) q ih =
          let v = ends_with (kinds_of (take n (drop (suc i) ts))) j (suc i) (done ++ (r ∷ [])) (roles_of us) q in
          let g : roles_of us ≡ done ++ (r ∷ v.0) = v.1 ∙ append_assoc done (r ∷ []) v.0 in
          let w : r ≡ role_of_number (get_or (roles us) i 0) =
          sym (get_or_at done r v.0 role.NoRole i l) ∙ ap (λ (x : List Role). get_or x i role.NoRole) (sym g) ∙ role_there us i in
          let t : length (done ++ (r ∷ [])) ≡ suc i = length-append done (r ∷ []) ∙ omega arith in
          ap (joined_to (record { token = token_at s (kept ts) i; role = r })) (ih j r t (omega arith) q)
          ∙ ap (λ (x : Role). parsed (record { token = token_at s (kept ts) i; role = x } ∷ tagged_from s (kept ts) (roles us) (suc i) n)) w

  -- stopped: at the token of this index, or where the tokens end
  abbrev place_of : ℕ → ℕ → ℕ
  place_of n i = cond (ltb i n) (get_or (places ts) i 0) m

  read_stopped :
      (n : ℕ) (k : Stack) (i : ℕ) (done : List Role) (x : ℕ) → i + n ≤ length ts
      → parse_part k i done n ≡ stopped_at x → read_from k (tokens_from s (kept ts) i n) m ≡ stopped (place_of (i + n) x)
  unfolding parse_from tokens_from
  read_stopped zero k i done x h e = end (may_end k) e
    where
      end : (b : Bool) → cond b (parsed done) (stopped_at i) ≡ stopped_at x → cond b (parsed []) (stopped m) ≡ stopped (place_of (i + 0) x)
      end true q = apart (sym q)
      end false q = let g : i ≡ x = cc in rw (le-ltb x (i + 0) (omega arith))
  read_stopped (suc n) k i done x h e =
      by (step k (kind_of_number (get_or (kinds ts) i 0))) (sym (ap (parse_from k i done) (first_of ts i n h)) ∙ e)
      (λ j r. read_stopped n j (suc i) (done ++ (r ∷ [])) x)
    where
      by : (y : Step) → parse_step y i (λ j r. parse_part j (suc i) (done ++ (r ∷ [])) n) ≡ stopped_at x
          → ((j : Stack) (r : Role) → suc i + n ≤ length ts → parse_part j (suc i) (done ++ (r ∷ [])) n ≡ stopped_at x
          → read_from j (tokens_from s (kept ts) (suc i) n) m ≡ stopped (place_of (suc i + n) x))
          → onward y (token_at s (kept ts) i) (λ j. read_from j (tokens_from s (kept ts) (suc i) n) m) ≡ stopped (place_of (i + suc n) x)
      by halt q ih = let g : i ≡ x = cc in rw (← g) (rw (lt-ltb i (i + suc n) (omega arith)))
      by (go r j) q ih =
          let c : suc i + n ≡ i + suc n = omega arith in
          ap (joined_to (record { token = token_at s (kept ts) i; role = r })) (ih j r (omega arith) q)
          ∙ ap (λ (y : ℕ). stopped (place_of y x)) c

  -- what an answer says of the tokens
  abbrev pub outcome_of : List Token → Result Unit ℕ → Parse
  outcome_of us (Ok u) = parsed (tagged_from s (kept ts) (roles us) 0 (length ts))
  outcome_of us (Err i) = stopped (place_of (length ts) i)

  -- THE CLAIM: what the function read answers is what reading the tokens by the grammar comes to.
  pub read_is : (us : List Token) (r : Result Unit ℕ) → Answers ts us r → read (tokens_from s (kept ts) 0 (length ts)) m ≡ outcome_of us r
  unfolding parse
  read_is us (Ok u) v = read_parsed (length ts) start 0 [] us refl (omega arith) (rw (take_all (length ts) ts (omega arith)) v.answer)
  read_is us (Err i) v =
      read_stopped (length ts) start 0 [] i (omega arith) (rw (take_all (length ts) ts (omega arith)) v.answer)
      ∙ ap (λ (y : ℕ). stopped (place_of y i)) (omega arith)
