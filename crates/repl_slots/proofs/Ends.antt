-- A file comes to one end: it spells one list of slots, or goes wrong at one place.
use Rattle.std.proofs.Common.{◌≡◌, ◌≢◌, ℕ, ◌+◌, ◌-◌, ◌<◌, ◌≤◌, List, [], ◌∷◌, ◌++◌, length, drop, get_or, Option, Some, None, Ok, Err, refl, sym, ◌∙◌, ap, subst, append_assoc, inl, inr, ◌⊎◌, arith}
use Rattle.std.proofs.lemmas.List.{append-nil, drop-drop, drop_at, length-append}
use Rattle.repl_disk.specs.Folder.{Folder}
use Rattle.repl_slots.specs.Slot.{Differ, IsNew, SlotList}
use Rattle.repl_slots.specs.SlotFile.{AreEach, AreEntries, BeginsWith, Entry, EntryStops, FileStops, HeaderStops, Spells, past, entries_bytes, entries_of, entry_bytes, field, header_bytes, in_header, in_slot, names_in}
use Rattle.repl_slots.specs.Stored.{Mounted, StoredIn, Stores, slots_name}
use Rattle.repl_slots.specs.declared.fault.SlotFault.TheVariants as fault
use Rattle.repl_slots.specs.declared.slot.TheConstants.{SLOT_LIMIT}
use Rattle.repl_slots.proofs.Walks.{entry_one, entry_same, header_none, header_one, stands_right}

-- ---- names that differ from those before

abbrev NewAll : List (List ℕ) → List Entry → Type 0
NewAll names [] = Unit {0}
NewAll names (entry ∷ entries) = IsNew names entry.name × NewAll (names ++ entry.name ∷ []) entries

new_at : (names : List (List ℕ)) (name : List ℕ) (rest : List (List ℕ)) (other : List ℕ) → IsNew (names ++ name ∷ rest) other → name ≢ other
new_at [] name rest other new = new.0
new_at (first ∷ names) name rest other new = new_at names name rest other new.1

new_before : (names : List (List ℕ)) (name : List ℕ) (rest : List (List ℕ)) → Differ (names ++ name ∷ rest) → IsNew names name
new_before [] name rest differ = tt
new_before (first ∷ names) name rest differ =
    (λ same. new_at names name rest first differ.0 (sym same), new_before names name rest differ.1)

new_all : (names : List (List ℕ)) (entries : List Entry) → Differ (names ++ names_in entries) → NewAll names entries
new_all names [] differ = tt
new_all names (entry ∷ entries) differ = (
  new_before names entry.name (names_in entries) differ,
  new_all (names ++ entry.name ∷ []) entries (subst Differ (sym (append_assoc names (entry.name ∷ []) (names_in entries))) differ),
)

-- ---- the end of a walk

-- With so many slots left to read the file goes wrong at this place, or is at its end.
abbrev Ends : ℕ → List (List ℕ) → ℕ → List ℕ → Option ℕ → Type 0
Ends left names at file None = (left ≡ 0) × (length file ≤ at)
Ends left names at file (Some place) = ((0 < left) × EntryStops names at file place) ⊎ ((left ≡ 0) × (place ≡ at) × (at < length file))

-- the same after these slots
abbrev EndsPast : List Entry → ℕ → List (List ℕ) → ℕ → List ℕ → Option ℕ → Type 0
EndsPast [] left names at file end = Ends left names at file end
EndsPast (entry ∷ entries) left names at file end = EndsPast entries (left - 1) (names ++ entry.name ∷ [])
    (at + length (entry_bytes entry)) file end

ends_past : (entries : List Entry) (left less : ℕ) (names all : List (List ℕ)) (at end : ℕ) (file : List ℕ) (o : Option ℕ)
    → Ends less all end file o → less + length entries ≡ left → all ≡ names ++ names_in entries
    → end ≡ at + length (entries_bytes entries) → EndsPast entries left names at file o
ends_past [] left less names all at end file o ends left_is names_are end_is =
    let l : less ≡ left = omega arith in
    let e : end ≡ at = omega arith in
    subst (λ (k : ℕ). Ends k names at file o) l (subst (λ (ns : List (List ℕ)). Ends less ns at file o) (names_are ∙ append-nil names)
    (subst (λ (k : ℕ). Ends less all k file o) e ends))
ends_past (entry ∷ entries) left less names all at end file o ends left_is names_are end_is =
    ends_past entries (left - 1) less (names ++ entry.name ∷ []) all (at + length (entry_bytes entry)) end file o ends (omega arith)
    (names_are ∙ sym (append_assoc names (entry.name ∷ []) (names_in entries)))
    (omega (arith, end_is, length-append (entry_bytes entry) (entries_bytes entries)))

ends_one : (left : ℕ) (names : List (List ℕ)) (at : ℕ) (file : List ℕ) (o p : Option ℕ) → Ends left names at file o
    → Ends left names at file p
    → o ≡ p
ends_one left names at file None None a b = refl
ends_one left names at file None (Some q) a (inl b) = absurd (omega (arith, a.0, b.0))
ends_one left names at file None (Some q) a (inr b) = absurd (omega (arith, a.1, b.2))
ends_one left names at file (Some p) None (inl a) b = absurd (omega (arith, a.0, b.0))
ends_one left names at file (Some p) None (inr a) b = absurd (omega (arith, a.2, b.1))
ends_one left names at file (Some p) (Some q) (inl a) (inl b) = ap (λ (k : ℕ). Some k) (entry_one names at file p q a.1 b.1)
ends_one left names at file (Some p) (Some q) (inl a) (inr b) = absurd (omega (arith, a.0, b.0))
ends_one left names at file (Some p) (Some q) (inr a) (inl b) = absurd (omega (arith, a.0, b.0))
ends_one left names at file (Some p) (Some q) (inr a) (inr b) = ap (λ (k : ℕ). Some k) (a.1 ∙ sym b.1)

-- no walk ends where a slot stands that is right
ends_none : (left : ℕ) (names : List (List ℕ)) (at : ℕ) (file : List ℕ) (o : Option ℕ) (entry : Entry) (entries : List Entry) (r : List ℕ)
    → Ends left names at file o → 0 < left → AreEach (entry ∷ entries) → IsNew names entry.name
    → drop at file ≡ entries_bytes (entry ∷ entries) ++ r → ⊥
ends_none left names at file None entry entries r ends more right new stands = omega (arith, ends.0, more)
ends_none left names at file (Some p) entry entries r (inl ends) more right new stands =
    stands_right names at file entry (entries_bytes entries ++ r) right.0 new
    (stands ∙ append_assoc (entry_bytes entry) (entries_bytes entries) r) p ends.1
ends_none left names at file (Some p) entry entries r (inr ends) more right new stands = omega (arith, ends.0, more)

-- ---- two walks

walk_one : (xs ys : List Entry) (left : ℕ) (names : List (List ℕ)) (at : ℕ) (file : List ℕ) (o p : Option ℕ) (r s : List ℕ)
    → drop at file ≡ entries_bytes xs ++ r → drop at file ≡ entries_bytes ys ++ s → AreEach xs → AreEach ys → NewAll names xs
    → NewAll names ys → length xs ≤ left → length ys ≤ left → EndsPast xs left names at file o → EndsPast ys left names at file p
    → (xs ≡ ys) × (o ≡ p)
walk_one [] [] left names at file o p r s dx dy fx fy nx ny lx ly ex ey = (refl, ends_one left names at file o p ex ey)
walk_one [] (y ∷ ys) left names at file o p r s dx dy fx fy nx ny lx ly ex ey =
    absurd (ends_none left names at file o y ys s ex (omega (arith, ly)) fy ny.0 dy)
walk_one (x ∷ xs) [] left names at file o p r s dx dy fx fy nx ny lx ly ex ey =
    absurd (ends_none left names at file p x xs r ey (omega (arith, lx)) fx nx.0 dx)
walk_one (x ∷ xs) (y ∷ ys) left names at file o p r s dx dy fx fy nx ny lx ly ex ey =
    let len = length (entry_bytes x) in
    let next : drop (at + len) file ≡ entries_bytes xs ++ r = sym (drop-drop len at file)
    ∙ ap (drop len) (dx ∙ append_assoc (entry_bytes x) (entries_bytes xs) r) ∙ drop_at (entry_bytes x) (entries_bytes xs ++ r) len refl in
    let same = entry_same x y (entries_bytes xs ++ r) (entries_bytes ys ++ s) fx.0.1 fy.0.1
    (sym (append_assoc (entry_bytes x) (entries_bytes xs) r) ∙ sym dx ∙ dy ∙ append_assoc (entry_bytes y) (entries_bytes ys) s) in
    let rest = walk_one xs ys (left - 1) (names ++ x.name ∷ []) (at + len) file o p r s next (next ∙ same.1) fx.1 fy.1 nx.1
    (subst (λ (z : Entry). NewAll (names ++ z.name ∷ []) ys) (sym same.0) ny.1) (omega (arith, lx)) (omega (arith, ly)) ex
    (subst (λ (z : Entry). EndsPast ys (left - 1) (names ++ z.name ∷ []) (at + length (entry_bytes z)) file p) (sym same.0) ey) in
    (ap (λ (z : Entry). z ∷ xs) same.0 ∙ ap (λ (l : List Entry). y ∷ l) rest.0, rest.1)

-- ---- a whole file

record Walked (file : List ℕ) (count : ℕ) (entries : List Entry) (end : Option ℕ) : Type 0 where
  few : count ≤ SLOT_LIMIT
  right : AreEntries entries
  rest : List ℕ
  begins : file ≡ header_bytes count ++ (entries_bytes entries ++ rest)
  enough : length entries ≤ count
  ends : EndsPast entries count [] 8 file end

walked_begun : (file : List ℕ) (count : ℕ) (entries : List Entry) (at : ℕ) (o : Option ℕ) → count ≤ SLOT_LIMIT
    → BeginsWith count entries at file → length entries ≤ count → Ends (count - length entries) (names_in entries) at file o
    → Walked file count entries o
walked_begun file count entries at o few begun enough ends = record {
  few = few;
  right = begun.right;
  rest = begun.rest;
  begins = begun.begins ∙ append_assoc (header_bytes count) (entries_bytes entries) begun.rest;
  enough = enough;
  ends = ends_past entries count (count - length entries) [] (names_in entries) 8 at file o ends (omega (arith, enough)) refl
      (begun.past ∙ length-append (header_bytes count) (entries_bytes entries));
}

walked_spelled : (file : List ℕ) (entries : List Entry) → Spells entries file → Walked file (length entries) entries None
walked_spelled file entries spells = record {
  few = spells.0.few;
  right = spells.0;
  rest = [];
  begins = spells.1 ∙ ap (λ (l : List ℕ). header_bytes (length entries) ++ l) (sym (append-nil (entries_bytes entries)));
  enough = omega arith;
  ends = ends_past entries (length entries) 0 [] (names_in entries) 8 (8 + length (entries_bytes entries)) file None
      (refl, omega (arith, ap length spells.1, length-append (header_bytes (length entries)) (entries_bytes entries))) (omega arith) refl
      refl;
}

count_one : (c d : ℕ) (x y : List ℕ) → c ≤ SLOT_LIMIT → d ≤ SLOT_LIMIT → header_bytes c ++ x ≡ header_bytes d ++ y → c ≡ d
count_one c d x y c_few d_few e = omega (arith, ap (λ (l : List ℕ). get_or l 7 0) e, c_few, d_few)

walked_one : (file : List ℕ) (c d : ℕ) (xs ys : List Entry) (o p : Option ℕ) → Walked file c xs o → Walked file d ys p → (xs ≡ ys) × (o ≡ p)
walked_one file c d xs ys o p a b =
    let same : d ≡ c = count_one d c (entries_bytes ys ++ b.rest) (entries_bytes xs ++ a.rest) b.few a.few (sym b.begins ∙ a.begins) in
    walk_one xs ys c [] 8 file o p a.rest b.rest (ap (drop 8) a.begins) (ap (drop 8) b.begins) a.right.each b.right.each
    (new_all [] xs a.right.differ) (new_all [] ys b.right.differ) a.enough (omega (arith, b.enough, same)) a.ends
    (subst (λ (k : ℕ). EndsPast ys k [] 8 file p) same b.ends)

walked_header : (file : List ℕ) (count : ℕ) (entries : List Entry) (o : Option ℕ) (p : ℕ) → Walked file count entries o
    → HeaderStops file p → ⊥
walked_header file count entries o p a =
    let long : 8 ≤ length file = omega (arith, ap length a.begins, length-append (header_bytes count) (entries_bytes entries ++ a.rest)) in
    header_none file p (omega (arith, long), ap (field 0 4) a.begins) (omega (arith, long), ap (field 4 2) a.begins)
    (omega (arith, long), (count, a.few, ap (field 6 2) a.begins))

-- where it goes wrong after its header
walked_slot : (file : List ℕ) (count : ℕ) (entries : List Entry) (at p : ℕ) → count ≤ SLOT_LIMIT → BeginsWith count entries at file
    → length entries < count → EntryStops (names_in entries) at file p → Walked file count entries (Some p)
walked_slot file count entries at p few begun room stops = walked_begun file count entries at (Some p) few begun (omega (arith, room))
    (inl (omega (arith, room), stops))

walked_past : (file : List ℕ) (count : ℕ) (entries : List Entry) (p : ℕ) → count ≤ SLOT_LIMIT → BeginsWith count entries p file
    → length entries ≡ count → p < length file → Walked file count entries (Some p)
walked_past file count entries p few begun all more = walked_begun file count entries p (Some p) few begun (omega (arith, all))
    (inr (omega (arith, all), refl, more))

place_at : (p q : ℕ) → Some p ≡ Some q → p ≡ q
place_at p q e = cc e

pub place_one : (file : List ℕ) (p q : ℕ) → FileStops file p → FileStops file q → p ≡ q
place_one file p q (in_header a) (in_header b) = header_one file p q a b
place_one file p q (in_header a) (in_slot d ys at fd bd rd sd) =
    absurd (walked_header file d ys (Some q) p (walked_slot file d ys at q fd bd rd sd) a)
place_one file p q (in_header a) (past d ys fd bd ad md) =
    absurd (walked_header file d ys (Some q) p (walked_past file d ys q fd bd ad md) a)
place_one file p q (in_slot c xs at fc bc rc sc) (in_header b) =
    absurd (walked_header file c xs (Some p) q (walked_slot file c xs at p fc bc rc sc) b)
place_one file p q (in_slot c xs at fc bc rc sc) (in_slot d ys to fd bd rd sd) =
    place_at p q (walked_one file c d xs ys (Some p) (Some q) (walked_slot file c xs at p fc bc rc sc)
    (walked_slot file d ys to q fd bd rd sd)).1
place_one file p q (in_slot c xs at fc bc rc sc) (past d ys fd bd ad md) =
    place_at p q (walked_one file c d xs ys (Some p) (Some q) (walked_slot file c xs at p fc bc rc sc)
    (walked_past file d ys q fd bd ad md)).1
place_one file p q (past c xs fc bc ac mc) (in_header b) =
    absurd (walked_header file c xs (Some p) q (walked_past file c xs p fc bc ac mc) b)
place_one file p q (past c xs fc bc ac mc) (in_slot d ys to fd bd rd sd) =
    place_at p q (walked_one file c d xs ys (Some p) (Some q) (walked_past file c xs p fc bc ac mc)
    (walked_slot file d ys to q fd bd rd sd)).1
place_one file p q (past c xs fc bc ac mc) (past d ys fd bd ad md) =
    place_at p q (walked_one file c d xs ys (Some p) (Some q) (walked_past file c xs p fc bc ac mc)
    (walked_past file d ys q fd bd ad md)).1

pub place_none : (entries : List Entry) (file : List ℕ) (p : ℕ) → Spells entries file → FileStops file p → ⊥
place_none entries file p spells (in_header a) = walked_header file (length entries) entries None p (walked_spelled file entries spells) a
place_none entries file p spells (in_slot d ys at fd bd rd sd) =
    let e : None ≡ Some p = (walked_one file (length entries) d entries ys None (Some p) (walked_spelled file entries spells)
    (walked_slot file d ys at p fd bd rd sd)).1 in absurd cc
place_none entries file p spells (past d ys fd bd ad md) =
    let e : None ≡ Some p = (walked_one file (length entries) d entries ys None (Some p) (walked_spelled file entries spells)
    (walked_past file d ys p fd bd ad md)).1 in absurd cc

pub spelled_one : (a b : List Entry) (file : List ℕ) → Spells a file → Spells b file → a ≡ b
spelled_one a b file first second =
    (walked_one file (length a) (length b) a b None None (walked_spelled file a first) (walked_spelled file b second)).0

-- ---- what is stored

stored_in_one : (a b : List Entry) (file : Option (List ℕ)) → StoredIn a file → StoredIn b file → a ≡ b
stored_in_one a b None first second = first ∙ sym second
stored_in_one a b (Some file) first second = spelled_one a b file first second

pub stored_one : (entries : List Entry) (list : SlotList) (folder : Folder) → Stores entries folder → Mounted folder (Ok list)
    → entries_of list.slots ≡ entries
stored_one entries list folder stores mounted = stored_in_one (entries_of list.slots) entries (folder slots_name) mounted.2 stores

pub stored_none : (entries : List Entry) (folder : Folder) (place : ℕ) → Stores entries folder
    → Mounted folder (Err (fault.BadSlots place)) → ⊥
stored_none entries folder place stores mounted =
    place_none entries mounted.0 place (subst (StoredIn entries) mounted.1 stores) mounted.2
