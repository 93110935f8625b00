-- Commands of replication connections and statements of ordinary ones: what their texts say (PostgreSQL 17 manual,
-- section "Streaming Replication Protocol").
use Rattle.std.specs.Prelude.{◌≡◌, ℕ, ◌^◌, ◌<◌, ◌≤◌, ◌⊎◌, Bool, true, false, List, [], ◌∷◌, ◌++◌, map, All, Option, Some, None, Ok, codes}
use Rattle.std.specs.Char.{to_ascii_lowercase, is_ascii_digit}
use Rattle.std.specs.Str.Parse.{digits_value}
use Rattle.hex.specs.Hex.{decode_of}
use Rattle.repl_text.specs.Text.{IsText}
use Rattle.repl_token.specs.Token.{Lowers}
use Rattle.repl_lsn.specs.Position.{Spells}
use Rattle.repl_names.specs.declared.setting.Setting.{Setting}
use Rattle.repl_names.specs.StandbyList.{Listing, IsListing}
use Rattle.repl_names.specs.Grammar as names
use Rattle.repl_names.specs.Setting.{SaysSetting}
use Rattle.repl_cmd.specs.declared.command.Command.{Command}
use Rattle.repl_cmd.specs.declared.command.Command.TheVariants as command
use Rattle.repl_cmd.specs.declared.token.Kind.{Kind}
use Rattle.repl_cmd.specs.declared.token.Kind.TheVariants as kind
use Rattle.repl_text.specs.SlotName.{IsSlotName}
use Rattle.repl_cmd.specs.Name.{IsParameterName}
use Rattle.repl_cmd.specs.Token.{Lexeme, ReadsLexemes}

-- ---- tokens with a meaning

-- this keyword
abbrev pub IsKeyword : List ℕ → Lexeme → Type 0
IsKeyword word t = (t.kind ≡ kind.Word) × Lowers t.text word

-- a word or a name in quotes
abbrev pub IsNaming : Lexeme → Type 0
IsNaming t = (t.kind ≡ kind.Word) ⊎ (t.kind ≡ kind.Name)

-- this slot's name: in a word capitals are read as small letters, and a name in quotes is taken as it is written
pub record IsSlot (name : List ℕ) (t : Lexeme) : Type 0 where
  pub written : ((t.kind ≡ kind.Word) × (name ≡ map to_ascii_lowercase t.text)) ⊎ ((t.kind ≡ kind.Name) × (name ≡ t.text))
  pub is_name : IsSlotName name

-- this parameter's name, whose capitals are read as small letters
pub record IsParameter (name : List ℕ) (t : Lexeme) : Type 0 where
  pub naming : IsNaming t
  pub text : IsText t.text
  pub written : name ≡ map to_ascii_lowercase t.text

-- a word or a position: where a position or a number is wanted, it is judged as such
abbrev pub IsJudged : Lexeme → Type 0
IsJudged t = (t.kind ≡ kind.Word) ⊎ (t.kind ≡ kind.Position)

-- this position
abbrev pub IsPosition : ℕ → Lexeme → Type 0
IsPosition at t = (t.kind ≡ kind.Position) × Spells t.text at

-- this number, in decimal digits, which is not below the least and has 32 bits
pub record IsNumber (least n : ℕ) (t : Lexeme) : Type 0 where
  pub word : t.kind ≡ kind.Word
  pub digits : All (λ c. is_ascii_digit c ≡ true) t.text
  pub value : n ≡ digits_value 10 t.text
  pub above : least ≤ n
  pub below : n < 2 ^ 32

-- a word or a text in quotes
abbrev pub IsValue : Lexeme → Type 0
IsValue t = (t.kind ≡ kind.Word) ⊎ (t.kind ≡ kind.Text)

-- true or false
abbrev pub IsFlag : Bool → Lexeme → Type 0
IsFlag true t = IsValue t × (Lowers t.text (codes "true") ⊎ Lowers t.text (codes "on") ⊎ Lowers t.text (codes "1"))
IsFlag false t = IsValue t × (Lowers t.text (codes "false") ⊎ Lowers t.text (codes "off") ⊎ Lowers t.text (codes "0"))

-- this value of `synchronous_commit`
abbrev pub IsSetting : Setting → Lexeme → Type 0
IsSetting v t = IsValue t × SaysSetting t.text v

-- these bytes, each as two hexadecimal digits of either case
abbrev pub IsBody : List ℕ → Lexeme → Type 0
IsBody bytes t = (t.kind ≡ kind.Text) × (decode_of t.text ≡ Ok bytes)

-- this standby list
abbrev pub IsList : Listing → Lexeme → Type 0
IsList list t = (t.kind ≡ kind.Text) × names.SaysList t.text list

-- ---- parts of a row

pub data Part : Type 0 where
  Keyword : List ℕ → Part
  Sign : Kind → Part
  Slot : List ℕ → Part
  Parameter : List ℕ → Part
  Position : ℕ → Part
  Number : ℕ → ℕ → Part
  Flag : Bool → Part
  Value : Setting → Part
  Body : List ℕ → Part
  Names : Listing → Part

-- the token is what the part says
abbrev pub Is : Part → Lexeme → Type 0
Is (Keyword word) t = IsKeyword word t
Is (Sign k) t = t.kind ≡ k
Is (Slot name) t = IsSlot name t
Is (Parameter name) t = IsParameter name t
Is (Position at) t = IsPosition at t
Is (Number least n) t = IsNumber least n t
Is (Flag b) t = IsFlag b t
Is (Value v) t = IsSetting v t
Is (Body bytes) t = IsBody bytes t
Is (Names list) t = IsList list t

-- the tokens are these parts, one for one
abbrev pub Follow : List Part → List Lexeme → Type 0
Follow [] [] = Unit {0}
Follow [] (t ∷ ts) = ⊥
Follow (p ∷ ps) [] = ⊥
Follow (p ∷ ps) (t ∷ ts) = Is p t × Follow ps ts

-- the tokens are one of these forms
abbrev pub OneOf : List (List Part) → List Lexeme → Type 0
OneOf [] ts = ⊥
OneOf (form ∷ forms) ts = Follow form ts ⊎ OneOf forms ts

-- ---- the rows

abbrev pub opening : Part
opening = Sign kind.Opening

abbrev pub closing : Part
closing = Sign kind.Closing

abbrev pub reserve_wal : Part
reserve_wal = Keyword (codes "reserve_wal")

abbrev pub temporary_part : Bool → List Part
temporary_part true = Keyword (codes "temporary") ∷ []
temporary_part false = []

-- `CREATE_REPLICATION_SLOT name [TEMPORARY]`
abbrev pub create_words : List ℕ → Bool → List Part
create_words name temporary = Keyword (codes "create_replication_slot") ∷ Slot name ∷ temporary_part temporary

-- the same with `PHYSICAL`
abbrev pub create_physical : List ℕ → Bool → List Part
create_physical name temporary = create_words name temporary ++ Keyword (codes "physical") ∷ []

-- what may stand after it
abbrev pub reserve_forms : Bool → List (List Part)
reserve_forms true = (reserve_wal ∷ []) ∷ (opening ∷ reserve_wal ∷ closing ∷ []) ∷ (opening ∷ reserve_wal ∷ Flag true ∷ closing ∷ []) ∷ []
reserve_forms false = [] ∷ (opening ∷ reserve_wal ∷ Flag false ∷ closing ∷ []) ∷ []

abbrev pub slot_part : Option (List ℕ) → List Part
slot_part None = []
slot_part (Some name) = Keyword (codes "slot") ∷ Slot name ∷ []

-- `START_REPLICATION [SLOT name]`
abbrev pub start_words : Option (List ℕ) → List Part
start_words slot = Keyword (codes "start_replication") ∷ slot_part slot

-- the same, with or without `PHYSICAL`
abbrev pub start_forms : Option (List ℕ) → List (List Part)
start_forms slot = start_words slot ∷ (start_words slot ++ Keyword (codes "physical") ∷ []) ∷ []

abbrev pub timeline_part : Option ℕ → List Part
timeline_part None = []
timeline_part (Some n) = Keyword (codes "timeline") ∷ Number 1 n ∷ []

abbrev pub wait_part : Bool → List Part
wait_part true = Keyword (codes "wait") ∷ []
wait_part false = []

abbrev pub number_part : Option ℕ → List Part
number_part None = []
number_part (Some n) = Number 1 n ∷ []

-- `SET synchronous_commit`
abbrev pub set_words : List Part
set_words = Keyword (codes "set") ∷ Keyword (codes "synchronous_commit") ∷ []

-- `ALTER SYSTEM SET synchronous_standby_names =`
abbrev pub alter_words : List Part
alter_words = Keyword (codes "alter") ∷ Keyword (codes "system") ∷ Keyword (codes "set") ∷ Keyword (codes "synchronous_standby_names") ∷
    Sign kind.Equals ∷ []

-- the forms of a command
abbrev pub forms : Command → List (List Part)
forms command.IdentifySystem = (Keyword (codes "identify_system") ∷ []) ∷ []
forms (command.Show name) = (Keyword (codes "show") ∷ Parameter name ∷ []) ∷ []
forms (command.TimelineHistory n) = (Keyword (codes "timeline_history") ∷ Number 1 n ∷ []) ∷ []
forms (command.CreateSlot name temporary reserve) = map (λ past. create_physical name temporary ++ past) (reserve_forms reserve)
forms (command.DropSlot name wait) = (Keyword (codes "drop_replication_slot") ∷ Slot name ∷ wait_part wait) ∷ []
forms (command.ReadSlot name) = (Keyword (codes "read_replication_slot") ∷ Slot name ∷ []) ∷ []
forms (command.StartReplication slot at timeline) = map (λ front. front ++ Position at ∷ timeline_part timeline) (start_forms slot)
forms (command.Append xid body) = (Keyword (codes "append") ∷ Number 0 xid ∷ Body body ∷ []) ∷ []
forms (command.SetCommit v) = (set_words ++ Sign kind.Equals ∷ Value v ∷ []) ∷ (set_words ++ Keyword (codes "to") ∷ Value v ∷ []) ∷ []
forms (command.SetNames list) = (alter_words ++ Names list ∷ []) ∷ []
forms (command.Promote n) = (Keyword (codes "promote") ∷ number_part n) ∷ []
forms command.Demote = (Keyword (codes "demote") ∷ []) ∷ []
forms command.Trim = (Keyword (codes "trim") ∷ []) ∷ []
forms command.Status = (Keyword (codes "status") ∷ []) ∷ []
forms command.Stop = (Keyword (codes "stop") ∷ []) ∷ []

-- a semicolon may end a command
abbrev pub IsEnding : List Lexeme → Type 0
IsEnding [] = Unit {0}
IsEnding (t ∷ []) = t.kind ≡ kind.Semicolon
IsEnding (t ∷ u ∷ ts) = ⊥

-- the tokens say the command
pub record Says (tokens : List Lexeme) (c : Command) : Type 0 where
  pub said : List Lexeme
  pub ending : List Lexeme
  pub parts : tokens ≡ said ++ ending
  pub is_said : OneOf (forms c) said
  pub ends : IsEnding ending

-- the tokens say some command
abbrev pub IsSaid : List Lexeme → Type 0
IsSaid tokens = (c : Command) × Says tokens c

-- the text says the command
pub record SaysCommand (text : List ℕ) (c : Command) : Type 0 where
  pub tokens : List Lexeme
  pub reads : ReadsLexemes 0 text tokens
  pub says : Says tokens c

-- ---- what is a command

abbrev pub IsTimeline : Option ℕ → Type 0
IsTimeline None = Unit {0}
IsTimeline (Some n) = (0 < n) × (n < 2 ^ 32)

abbrev pub IsSlotOf : Option (List ℕ) → Type 0
IsSlotOf None = Unit {0}
IsSlotOf (Some name) = IsSlotName name

-- its names are names, and its numbers fit
abbrev pub IsCommand : Command → Type 0
IsCommand command.IdentifySystem = Unit {0}
IsCommand (command.Show name) = IsParameterName name
IsCommand (command.TimelineHistory n) = (0 < n) × (n < 2 ^ 32)
IsCommand (command.CreateSlot name temporary reserve) = IsSlotName name
IsCommand (command.DropSlot name wait) = IsSlotName name
IsCommand (command.ReadSlot name) = IsSlotName name
IsCommand (command.StartReplication slot at timeline) = IsSlotOf slot × (at < 2 ^ 64) × IsTimeline timeline
IsCommand (command.Append xid body) = (xid < 2 ^ 32) × All (λ b. b < 256) body
IsCommand (command.SetCommit v) = Unit {0}
IsCommand (command.SetNames list) = IsListing list
IsCommand (command.Promote n) = IsTimeline n
IsCommand command.Demote = Unit {0}
IsCommand command.Trim = Unit {0}
IsCommand command.Status = Unit {0}
IsCommand command.Stop = Unit {0}
