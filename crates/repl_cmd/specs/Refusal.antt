-- Where texts leave the grammar of commands, and the cause of each refusal.
use Rattle.std.specs.Prelude.{◌≡◌, ◌≢◌, ℕ, ◌⊎◌, Bool, List, [], ◌∷◌, ◌++◌, length, take, drop, Option, codes}
use Rattle.repl_text.specs.Language.{StopsAt}
use Rattle.repl_names.specs.declared.fault.NamesFault.TheVariants as names_fault
use Rattle.repl_names.specs.Grammar as names
use Rattle.repl_cmd.specs.declared.fault.CmdFault.{CmdFault}
use Rattle.repl_cmd.specs.declared.fault.CmdFault.TheVariants as fault
use Rattle.repl_cmd.specs.declared.fault.Unsupported.{Unsupported}
use Rattle.repl_cmd.specs.declared.fault.Unsupported.TheVariants as unsupported
use Rattle.repl_cmd.specs.declared.token.Kind.TheVariants as kind
use Rattle.repl_cmd.specs.Token.{Lexeme, ReadsLexemes}
use Rattle.repl_cmd.specs.Command.{Keyword, Position, OneOf, IsSaid, IsKeyword, IsNaming, IsJudged, create_words, start_words, start_forms, alter_words}

-- ---- what is wanted after tokens

-- `PHYSICAL`, in whose place `LOGICAL` may stand for PostgreSQL
abbrev pub WantsPhysical : List Lexeme → Type 0
WantsPhysical before = (name : List ℕ) × (temporary : Bool) × (slot : Option (List ℕ))
    × OneOf (create_words name temporary ∷ start_words slot ∷ []) before

-- a slot's name
abbrev pub WantsSlot : List Lexeme → Type 0
WantsSlot before = OneOf
    ((Keyword (codes "create_replication_slot") ∷ [])
    ∷ (Keyword (codes "drop_replication_slot") ∷ [])
    ∷ (Keyword (codes "read_replication_slot") ∷ [])
    ∷ (Keyword (codes "start_replication") ∷ Keyword (codes "slot") ∷ [])
    ∷ []) before

-- a position
abbrev pub WantsPosition : List Lexeme → Type 0
WantsPosition before = (slot : Option (List ℕ)) × OneOf (start_forms slot) before

-- a number
abbrev pub WantsNumber : List Lexeme → Type 0
WantsNumber before =
    OneOf ((Keyword (codes "timeline_history") ∷ []) ∷ (Keyword (codes "append") ∷ []) ∷ (Keyword (codes "promote") ∷ []) ∷ []) before
    ⊎ ((slot : Option (List ℕ)) × (at : ℕ) × OneOf
    ((start_words slot ++ Position at ∷ Keyword (codes "timeline") ∷ [])
    ∷ (start_words slot ++ Keyword (codes "physical") ∷ Position at ∷ Keyword (codes "timeline") ∷ [])
    ∷ []) before)

-- a standby list
abbrev pub WantsNames : List Lexeme → Type 0
WantsNames before = OneOf (alter_words ∷ []) before

-- ---- the cause of each refusal

-- after these tokens, this one names what is left out
abbrev pub IsLeftOut : List Lexeme → Lexeme → Unsupported → Type 0
IsLeftOut before t unsupported.Logical = WantsPhysical before × IsKeyword (codes "logical") t
IsLeftOut before t unsupported.BaseBackup = (before ≡ []) × IsKeyword (codes "base_backup") t
IsLeftOut before t unsupported.UploadManifest = (before ≡ []) × IsKeyword (codes "upload_manifest") t
IsLeftOut before t unsupported.AlterSlot = (before ≡ []) × IsKeyword (codes "alter_replication_slot") t

-- after these tokens, this one has a fault of its own
abbrev pub IsSpecial : List Lexeme → Lexeme → CmdFault → Type 0
IsSpecial before t (fault.Syntax place) = ⊥
IsSpecial before t (fault.Unsupported what) = IsLeftOut before t what
IsSpecial before t (fault.BadSlotName place) = (place ≡ t.place) × WantsSlot before × IsNaming t
IsSpecial before t (fault.BadLsn place) = (place ≡ t.place) × WantsPosition before × IsJudged t
    × ¬ (WantsPhysical before × IsKeyword (codes "logical") t)
IsSpecial before t (fault.BadNumber place) = (place ≡ t.place) × WantsNumber before × IsJudged t
IsSpecial before t (fault.BadNames found) = WantsNames before × (t.kind ≡ kind.Text) × names.IsListFault t.text found
    × (found ≢ names_fault.Memory)
IsSpecial before t fault.Memory = ⊥

-- after these tokens, this one has this fault, which is of the syntax where it has no other
abbrev pub IsFaultOf : List Lexeme → Lexeme → CmdFault → Type 0
IsFaultOf before t (fault.Syntax place) = (place ≡ t.place) × ¬ ((f : CmdFault) × IsSpecial before t f)
IsFaultOf before t f = IsSpecial before t f

-- after these tokens, the ones that are left, or the end at this place, have this fault
abbrev pub IsFaultAt : List Lexeme → List Lexeme → ℕ → CmdFault → Type 0
IsFaultAt before [] end f = f ≡ fault.Syntax end
IsFaultAt before (t ∷ past) end f = IsFaultOf before t f

-- the text leaves the grammar at the token with some index, by this fault
pub record Leaves (text : List ℕ) (f : CmdFault) : Type 0 where
  pub tokens : List Lexeme
  pub index : ℕ
  pub reads : ReadsLexemes 0 text tokens
  pub stops : StopsAt IsSaid tokens index
  pub cause : IsFaultAt (take index tokens) (drop index tokens) (length text) f

abbrev pub IsCommandFault : List ℕ → CmdFault → Type 0
IsCommandFault text fault.Memory = Unit {0}
IsCommandFault text f = Leaves text f
