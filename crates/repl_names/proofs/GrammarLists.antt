-- A text says one list at most, and one that is refused says none.
use Rattle.std.proofs.Common.{◌≡◌, ℕ, ◌<◌, ◌≤◌, inl, inr, List, [], ◌∷◌, length, Some, refl, sym, ap, subst, ◌∙◌, arith}
use Rattle.repl_names.specs.declared.token.Kind.TheVariants as kind
use Rattle.repl_names.specs.declared.token.Token.{Token}
use Rattle.repl_names.specs.declared.list.Method.{Method}
use Rattle.repl_names.specs.declared.list.TheConstants.{NUMBER_LIMIT, SPELLING_LIMIT}
use Rattle.repl_names.specs.declared.fault.NamesFault.{NamesFault}
use Rattle.repl_names.specs.declared.fault.NamesFault.TheVariants as fault
use Rattle.repl_names.specs.StandbyList.{Listing, Demands, list_spelling}
use Rattle.repl_names.specs.Token.{list_class, list_token}
use Rattle.repl_names.specs.Grammar.{AreNames, Says, value_of, Spells, SaysList, Leaves, SaysNumber, SaysLength, IsListFault}
use Rattle.repl_names.proofs.GrammarSays.{say_same}
use Rattle.repl_token.proofs.OneReading.{reads_as_one}

-- ---- a list with a number has names

pub names_some : (tokens : List Token) (names : List (List ℕ)) → AreNames tokens names → 0 < length names
names_some [] names n = absurd n
names_some (token ∷ []) names n = rw n.1 (omega arith)
names_some (token ∷ comma ∷ tokens) names n = rw n.2.1 (omega arith)

pub says_some : (tokens : List Token) (m : Method) (number : Token) (names : List (List ℕ)) → Says tokens m (Some number) names
    → 0 < length names
says_some tokens m number names (inl c) = names_some c.1.inside names c.1.are_names
says_some tokens m number names (inr c) = names_some c.are_counted.inside names c.are_counted.are_names

pub demands_number : (names : List (List ℕ)) (m : Method) (n : ℕ) → 0 < length names → Demands names m n → (0 < n) × (n ≤ NUMBER_LIMIT)
demands_number [] m n l d = absurd (omega arith)
demands_number (name ∷ names) m n l d = d

pub number_demands : (names : List (List ℕ)) (m : Method) (n : ℕ) → 0 < length names → (0 < n) × (n ≤ NUMBER_LIMIT) → Demands names m n
number_demands [] m n l d = absurd (omega arith)
number_demands (name ∷ names) m n l d = d

-- ---- one list

listing : Method → ℕ → List (List ℕ) → Listing
listing m n names = record { method = m; number = n; names = names }

same_parts : (m n : Method) (a b : ℕ) (xs ys : List (List ℕ)) → m ≡ n → a ≡ b → xs ≡ ys → listing m a xs ≡ listing n b ys
same_parts m n a b xs ys d e f = cc

same_listing : (a b : Listing) → a.method ≡ b.method → a.number ≡ b.number → a.names ≡ b.names → a ≡ b
unfolding listing
same_listing a b d e f = same_parts a.method b.method a.number b.number a.names b.names d e f

pub spells_one : (text : List ℕ) (a b : Listing) → Spells text a → Spells text b → a ≡ b
spells_one text a b p q =
    let e = reads_as_one list_class list_token 0 text p.tokens q.tokens p.reads q.reads in
    let s = say_same q.tokens a.method b.method p.number q.number a.names b.names
    (subst (λ (ts : List Token). Says ts a.method p.number a.names) e p.says) q.says in
    same_listing a b s.same_method (p.value ∙ ap (λ n. value_of n a.names) s.same_number ∙ ap (value_of q.number) s.same_names
    ∙ sym q.value) s.same_names

pub reads_one_list : (text : List ℕ) (a b : Listing) → SaysList text a → SaysList text b → a ≡ b
reads_one_list text a b p q = spells_one text a b p.spells q.spells

-- ---- what is refused is not read

leaves_unread : (text : List ℕ) (list : Listing) (place index : ℕ) (tokens : List Token) → SaysList text list
    → Leaves text place index tokens → ⊥
leaves_unread text list place index tokens r l =
    let s = r.spells in
    l.stops.refused (
      list.method,
      s.number,
      list.names,
      subst (λ (ts : List Token). Says ts list.method s.number list.names)
          (reads_as_one list_class list_token 0 text s.tokens tokens s.reads l.reads) s.says,
    )

number_read : (text : List ℕ) (list : Listing) (place n : ℕ) → SaysList text list → SaysNumber text place n → (0 < n) × (n ≤ NUMBER_LIMIT)
number_read text list place n r s =
    let p = r.spells in
    let e = reads_as_one list_class list_token 0 text p.tokens s.tokens p.reads s.reads in
    let same = say_same s.tokens list.method s.m p.number (Some s.number) list.names s.names
    (subst (λ (ts : List Token). Says ts list.method p.number list.names) e p.says) s.says in
    let is : list.number ≡ n = p.value ∙ ap (λ a. value_of a list.names) same.same_number ∙ sym s.value in
    let some : 0 < length list.names = rw same.same_names (says_some s.tokens s.m s.number s.names s.says) in
    subst (λ (k : ℕ). (0 < k) × (k ≤ NUMBER_LIMIT)) is (demands_number list.names list.method list.number some r.is_listing.demands)

length_read : (text : List ℕ) (list : Listing) (n : ℕ) → SaysList text list → SaysLength text n → n ≤ SPELLING_LIMIT
length_read text list n r s =
    let e = spells_one text s.list list s.spells r.spells in
    omega (arith, r.is_listing.short, s.size, ap (λ l. length (list_spelling l)) e)

pub refused_unread : (text : List ℕ) (list : Listing) (f : NamesFault) → SaysList text list → IsListFault text f → f ≡ fault.Memory
refused_unread text list (fault.Syntax place) r (index, tokens, l, o) = absurd (leaves_unread text list place index tokens r l)
refused_unread text list (fault.OpenQuote place) r (index, tokens, l, o) = absurd (leaves_unread text list place index tokens r l)
refused_unread text list (fault.Zero place) r s = absurd (omega (arith, (number_read text list place 0 r s).0))
refused_unread text list (fault.TooLarge place) r (n, s, l) = absurd (omega (arith, (number_read text list place n r s).1))
refused_unread text list (fault.TooLong have) r (n, s, l, e) = absurd (omega (arith, length_read text list n r s))
refused_unread text list fault.Memory r s = refl

-- ---- the number of a list

pub says_number_kind : (tokens : List Token) (m : Method) (number : Token) (names : List (List ℕ)) → Says tokens m (Some number) names
    → number.kind ≡ kind.Number
says_number_kind tokens m number names (inl c) = c.1.is_number
says_number_kind tokens m number names (inr c) = c.are_counted.is_number
