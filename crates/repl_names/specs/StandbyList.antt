-- Lists of synchronous standbys (PostgreSQL 17 manual, section "Replication", `synchronous_standby_names`),
-- their one printed spelling, and the entry that a standby's name matches.
use Rattle.std.specs.Prelude.{◌≡◌, ℕ, ◌+◌, ◌<◌, ◌≤◌, ◌⊎◌, List, [], ◌∷◌, ◌++◌, map, length, bytes_eq, if◌then◌else◌, Bool, ◌||◌, position, option_map, unwrap_or, All, codes, decimal}
use Rattle.std.specs.Char.{to_ascii_lowercase}
use Rattle.repl_text.specs.Text.{IsText}
use Rattle.repl_token.specs.Token.{quoted}
use Rattle.repl_names.specs.declared.list.Method.{Method}
use Rattle.repl_names.specs.declared.list.Method.TheVariants as method
use Rattle.repl_names.specs.declared.list.TheConstants.{NUMBER_LIMIT, SPELLING_LIMIT}

-- how many of which standbys confirm a commit
pub record Listing : Type 0 where
  pub method : Method
  pub number : ℕ
  pub names : List (List ℕ)

-- ---- the printed spelling

-- `*` stands for any name, quoted or not, and is printed bare
abbrev pub name_spelling : List ℕ → List ℕ
name_spelling name = if bytes_eq name (codes "*") then codes "*" else quoted 34 name

abbrev pub names_spelling : List (List ℕ) → List ℕ
names_spelling [] = []
names_spelling (name ∷ []) = name_spelling name
names_spelling (name ∷ names) = name_spelling name ++ codes ", " ++ names_spelling names

abbrev pub method_spelling : Method → List ℕ
method_spelling method.First = codes "FIRST"
method_spelling method.Any = codes "ANY"

-- the list without names is printed as nothing
abbrev pub spelling_of : Listing → List (List ℕ) → List ℕ
spelling_of list [] = []
spelling_of list names = method_spelling list.method ++ codes " " ++ decimal list.number ++ codes " (" ++ names_spelling names ++ codes ")"

abbrev pub list_spelling : Listing → List ℕ
list_spelling list = spelling_of list list.names

-- ---- what is a list

-- what the list without names demands, which is nothing, and what any other may
abbrev pub Demands : List (List ℕ) → Method → ℕ → Type 0
Demands [] m number = (m ≡ method.First) × (number ≡ 0)
Demands names m number = (0 < number) × (number ≤ NUMBER_LIMIT)

pub record IsListing (list : Listing) : Type 0 where
  pub texts : All IsText list.names
  pub demands : Demands list.names list.method list.number
  pub short : length (list_spelling list) ≤ SPELLING_LIMIT

-- ---- priorities

-- `*` matches any name, and another entry the name that is equal to it but for the case of ASCII letters
abbrev pub Matches : List ℕ → List ℕ → Type 0
Matches name entry = (entry ≡ codes "*") ⊎ (map to_ascii_lowercase entry ≡ map to_ascii_lowercase name)

-- the same, as a test
abbrev pub matches : List ℕ → List ℕ → Bool
matches name entry = bytes_eq entry (codes "*") || bytes_eq (map to_ascii_lowercase entry) (map to_ascii_lowercase name)

-- the place, from 1, of the first entry that matches the name, or 0 where none does
abbrev pub priority_of : List (List ℕ) → List ℕ → ℕ
priority_of entries name = unwrap_or (option_map (λ place. place + 1) (position (matches name) entries)) 0

-- the same, as a relation
abbrev pub IsPriority : List (List ℕ) → List ℕ → ℕ → Type 0
IsPriority entries name priority =
    (priority ≡ 0) × All (λ entry. ¬ Matches name entry) entries
    ⊎ (before : List (List ℕ)) × (entry : List ℕ) × (after : List (List ℕ)) × (entries ≡ before ++ entry ∷ after)
    × (priority ≡ length before + 1) × All (λ other. ¬ Matches name other) before × Matches name entry
