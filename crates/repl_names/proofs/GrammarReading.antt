-- A text is read as the list that its tokens say, or is refused.
use Rattle.std.proofs.Common.{◌≡◌, ℕ, ◌-◌, ◌^◌, ◌<◌, ◌≤◌, ◌⊎◌, inl, inr, List, [], ◌∷◌, slice_get, length, drop, min, Option, Some, None, Result, Ok, Err, IfOk, IfErr, IsErr, IsErrAnd, All, refl, sym, ap, subst, ◌∙◌, arith}
use Rattle.std.specs.Str.Parse.{digits_value}
use Rattle.repl_text.specs.Text.{IsText}
use Rattle.repl_names.specs.declared.token.Token.{Token}
use Rattle.repl_names.specs.declared.list.Method.{Method}
use Rattle.repl_names.specs.declared.list.TheConstants.{SPELLING_LIMIT}
use Rattle.repl_names.specs.declared.fault.NamesFault.{NamesFault}
use Rattle.repl_names.specs.declared.fault.NamesFault.TheVariants as fault
use Rattle.repl_names.specs.declared.grammar.Shape.{Shape}
use Rattle.repl_names.specs.StandbyList.{Listing, IsListing, Demands, list_spelling}
use Rattle.repl_names.specs.Token.{ReadsListTokens}
use Rattle.repl_names.specs.Grammar.{Says, IsSaid, value_of, Spells, SaysList, IsListFault}
use Rattle.repl_names.specs.Walk.{kind_at, shape_from, said_number, said_names, IsFaultOf, HaveDigits, IsTooLong, IsNumberOf}
use Rattle.repl_names.proofs.GrammarSays.{shape_says}
use Rattle.repl_names.proofs.TokenKinds.{reads_number}
use Rattle.repl_names.proofs.GrammarLists.{names_some, says_some, number_demands, says_number_kind, reads_one_list, refused_unread}

-- ---- the number

digits_from : (text : List ℕ) (tokens : List Token) (m : Method) (index : ℕ) (o : Option Token) (names : List (List ℕ))
    → ReadsListTokens 0 text tokens → slice_get tokens index ≡ o → Says tokens m o names → HaveDigits o
digits_from text tokens m index None names r e s = tt
digits_from text tokens m index (Some number) names r e s = reads_number 0 text tokens index number r e
    (says_number_kind tokens m number names s)

pub number_digits : (text : List ℕ) (tokens : List Token) (m : Method) (index : Option ℕ) (names : List (List ℕ)) → ReadsListTokens 0 text tokens
    → Says tokens m (said_number tokens index) names → HaveDigits (said_number tokens index)
number_digits text tokens m None names r s = tt
number_digits text tokens m (Some index) names r s = digits_from text tokens m index (slice_get tokens index) names r refl s

pub fault_refused : (text : List ℕ) (tokens : List Token) (m : Method) (number : Option Token) (names : List (List ℕ)) (f : NamesFault)
    → ReadsListTokens 0 text tokens → Says tokens m number names → IsFaultOf number f → IsListFault text f
fault_refused text tokens m (Some number) names (fault.Zero place) r s i =
    record { tokens = tokens; m = m; number = number; names = names; reads = r; says = s; place = i.0; value = sym i.1 }
fault_refused text tokens m (Some number) names (fault.TooLarge place) r s i = (
  digits_value 10 number.text,
  record {
    tokens = tokens;
    m = m;
    number = number;
    names = names;
    reads = r;
    says = s;
    place = i.0;
    value = refl;
  },
  i.1,
)
fault_refused text tokens m (Some number) names _ r s i = absurd i
fault_refused text tokens m None names f r s i = absurd i

-- ---- the list

plain_value : (tokens : List Token) (names : List (List ℕ)) (n : ℕ) → 0 < length names → n ≡ 1 → n ≡ value_of None names
plain_value tokens [] n l e = absurd (omega arith)
plain_value tokens (name ∷ names) n l e = e

value_said : (tokens : List Token) (m : Method) (number : Option Token) (names : List (List ℕ)) (n : ℕ) → Says tokens m number names
    → IsNumberOf tokens number n → n ≡ value_of number names
value_said tokens m (Some number) names n s i = i.0
value_said [] m None names n (f, inl e) i = i ∙ ap (value_of None) (sym e.1)
value_said [] m None names n (f, inr a) i = absurd a
value_said (token ∷ tokens) m None names n (f, inl e) i = absurd cc
value_said (token ∷ tokens) m None names n (f, inr a) i = plain_value (token ∷ tokens) names n (names_some (token ∷ tokens) names a) i

demands_said : (tokens : List Token) (m : Method) (number : Option Token) (names : List (List ℕ)) (n : ℕ) → Says tokens m number names
    → IsNumberOf tokens number n → Demands names m n
demands_said tokens m (Some number) names n s i = number_demands names m n (says_some tokens m number names s) (i.1, i.2)
demands_said [] m None names n (f, inl e) i = subst (λ (ns : List (List ℕ)). Demands ns m n) (sym e.1) (f, i)
demands_said [] m None names n (f, inr a) i = absurd a
demands_said (token ∷ tokens) m None names n (f, inl e) i = absurd cc
demands_said (token ∷ tokens) m None names n (f, inr a) i = number_demands names m n (names_some (token ∷ tokens) names a)
    (omega arith, omega arith)

pub tokens_demand : (tokens : List Token) (m : Method) (number : Option Token) (names said : List (List ℕ)) (n : ℕ) → names ≡ said
    → Says tokens m number said → IsNumberOf tokens number n → Demands names m n
tokens_demand tokens m number names said n e s i = demands_said tokens m number names n (subst (Says tokens m number) (sym e) s) i

pub tokens_spell : (text : List ℕ) (tokens : List Token) (m : Method) (number : Option Token) (names said : List (List ℕ)) (n : ℕ)
    → ReadsListTokens 0 text tokens → names ≡ said → Says tokens m number said → IsNumberOf tokens number n
    → Spells text (record { method = m; number = n; names = names })
tokens_spell text tokens m number names said n r e s i =
    let says = subst (Says tokens m number) (sym e) s in
    record { tokens = tokens; number = number; reads = r; says = says; value = value_said tokens m number names n says i }

-- the length decides
pub listing_of : (m : Method) (n : ℕ) (judged names : List (List ℕ)) (have : ℕ) → judged ≡ names → All IsText judged → Demands names m n
    → have ≡ min (length (list_spelling (record { method = m; number = n; names = judged }))) (2 ^ 64 - 1) → have ≤ SPELLING_LIMIT
    → IsListing (record { method = m; number = n; names = names })
listing_of m n judged names have e t d s l = record {
  texts = subst (All IsText) e t;
  demands = d;
  short = omega (arith, ap (λ (ns : List (List ℕ)). length (list_spelling (record { method = m; number = n; names = ns }))) e);
}

abbrev pub list : Method → ℕ → List (List ℕ) → Listing
list m n names = record { method = m; number = n; names = names }

pub list_read : (text : List ℕ) (list : Listing) (r : Result Listing NamesFault) → Spells text list → IfOk r (λ l. (l ≡ list) × IsListing l)
    → IfOk r (λ l. SaysList text l)
list_read text list (Ok l) s i = record { spells = subst (Spells text) (sym i.0) s; is_listing = i.1 }
list_read text list (Err f) s i = i

too_long : (text : List ℕ) (list : Listing) (f : NamesFault) → Spells text list → Demands list.names list.method list.number
    → IsTooLong list f → IsListFault text f
too_long text list (fault.TooLong have) s d i = (
  length (list_spelling list),
  record {
    list = list;
    spells = s;
    demands = d;
    size = refl;
  },
  i.1,
  i.0,
)
too_long text list _ s d i = absurd i

pub list_refused : (text : List ℕ) (list : Listing) (r : Result Listing NamesFault) → Spells text list
    → Demands list.names list.method list.number → IfErr r (λ f. IsTooLong list f) → IfErr r (λ f. IsListFault text f)
list_refused text list (Ok l) s d i = i
list_refused text list (Err f) s d i = too_long text list f s d i

-- what the text says is read
pub only_read : (text : List ℕ) (r : Result Listing NamesFault) → IfOk r (λ l. SaysList text l) → IfErr r (λ f. IsListFault text f)
    → (list : Listing) → SaysList text list → (r ≡ Ok list) ⊎ (r ≡ Err fault.Memory)
only_read text (Ok l) o e list i = inl (ap (λ x. Ok x) (reads_one_list text l list o i))
only_read text (Err f) o e list i = inr (ap (λ x. Err x) (refused_unread text list f i e))

-- ---- what is known after the judgment

pub record Parsed (text : List ℕ) (tokens : List Token) (s : Shape) : Type 0 where
  pub reads : ReadsListTokens 0 text tokens
  pub says : Says tokens s.method (said_number tokens s.number) (said_names (drop s.names tokens))

pub parsed : (text : List ℕ) (tokens judged looked : List Token) (s : Shape) → ReadsListTokens 0 text tokens → judged ≡ tokens → IsSaid judged
    → looked ≡ tokens → s ≡ shape_from (kind_at looked 0) (kind_at looked 1) → Parsed text tokens s
parsed text tokens judged looked s r d i e f = record {
  reads = r;
  says = shape_says tokens s (subst IsSaid d i) (f ∙ ap (λ ts. shape_from (kind_at ts 0) (kind_at ts 1)) e);
}

pub parsed_digits : (text : List ℕ) (tokens read : List Token) (s : Shape) → Parsed text tokens s → read ≡ tokens
    → HaveDigits (said_number read s.number)
parsed_digits text tokens read s p e =
    subst (λ (ts : List Token). HaveDigits (said_number ts s.number)) (sym e)
    (number_digits text tokens s.method s.number (said_names (drop s.names tokens)) p.reads p.says)

pub parsed_fault : (text : List ℕ) (tokens read : List Token) (s : Shape) (r : Result Listing NamesFault) (f : NamesFault)
    → Parsed text tokens s → read ≡ tokens → IsFaultOf (said_number read s.number) f → IsErrAnd r (λ e. e ≡ f)
    → IfErr r (λ f. IsListFault text f)
parsed_fault text tokens read s (Ok l) f p e i a = absurd a
parsed_fault text tokens read s (Err g) f p e i a =
    let i : IsFaultOf (said_number tokens s.number) f = subst (λ (ts : List Token). IsFaultOf (said_number ts s.number) f) e i in
    subst (IsListFault text) (sym a) (fault_refused text tokens s.method (said_number tokens s.number)
    (said_names (drop s.names tokens)) f p.reads p.says i)

pub parsed_spells : (text : List ℕ) (tokens read : List Token) (s : Shape) (n : ℕ) (names : List (List ℕ)) → Parsed text tokens s
    → read ≡ tokens → IsNumberOf read (said_number read s.number) n → names ≡ said_names (drop s.names tokens)
    → Spells text (record { method = s.method; number = n; names = names })
parsed_spells text tokens read s n names p e i f =
    tokens_spell text tokens s.method (said_number tokens s.number) names (said_names (drop s.names tokens)) n p.reads f p.says
    (subst (λ (ts : List Token). IsNumberOf ts (said_number ts s.number) n) e i)

pub parsed_demands : (text : List ℕ) (tokens read : List Token) (s : Shape) (n : ℕ) (names : List (List ℕ)) → Parsed text tokens s
    → read ≡ tokens → IsNumberOf read (said_number read s.number) n → names ≡ said_names (drop s.names tokens)
    → Demands names s.method n
parsed_demands text tokens read s n names p e i f =
    tokens_demand tokens s.method (said_number tokens s.number) names (said_names (drop s.names tokens)) n f p.says
    (subst (λ (ts : List Token). IsNumberOf ts (said_number ts s.number) n) e i)

-- a fault is no list
pub fault_reads : (text : List ℕ) (r : Result Listing NamesFault) → IsErr r → IfOk r (λ l. SaysList text l)
fault_reads text (Ok l) e = absurd cc
fault_reads text (Err f) e = tt
