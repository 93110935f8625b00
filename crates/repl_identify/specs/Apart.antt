-- No input is a session and refused: the law of the converter of sessions.
use Rattle.std.proofs.Common.{◌≡◌, ℕ, List, [], ◌∷◌, ◌++◌, refl, sym, ap, subst, ◌∙◌, append_assoc, inl, inr}
use Rattle.std.proofs.lemmas.List.{append-nil}
use Rattle.repl_text.specs.Language.{Begins}
use Rattle.repl_message.specs.declared.message.Phase.TheVariants as phase
use Rattle.repl_message.specs.declared.message.Message.{Message}
use Rattle.repl_message.specs.Message.{spelling}
use Rattle.repl_wire.proofs.Streams.{Further, readings, none_further}
use Rattle.repl_identify.specs.Session.{AreSomeSession, IsSession, IsNoSessionAt}

-- what goes on with a message of a session, goes on with that message
begins_one : (ms ns : List Message) (m : Message) (more : List Message) → ns ≡ ms ++ m ∷ more → Begins AreSomeSession ns
    → Begins AreSomeSession (ms ++ m ∷ [])
begins_one ms ns m more longer b =
    let parts : ns ++ b.0 ≡ (ms ++ m ∷ []) ++ (more ++ b.0) =
    ap (λ (x : List Message). x ++ b.0) longer ∙ append_assoc ms (m ∷ more) b.0 ∙ sym (append_assoc ms (m ∷ []) (more ++ b.0)) in
    (more ++ b.0, subst AreSomeSession parts b.1)

-- messages that go on past the place do not begin a session
pub not_further : (input : List ℕ) (place : ℕ) (r : IsNoSessionAt input place) (ns : List Message) → Further r.last r.rest r.messages ns
    → Begins AreSomeSession ns → ⊥
not_further input place r ns f b =
    r.stops f.message (spelling f.message) f.past f.parts (record { belongs = f.belongs; spelled = refl })
    (begins_one r.messages ns f.message f.more f.longer b)

session_begins : (ms : List Message) → AreSomeSession ms → Begins AreSomeSession ms
session_begins ms s = ([], subst AreSomeSession (sym (append-nil ms)) s)

pub not_both : (input : List ℕ) (requests questions place : ℕ) → IsSession input requests questions → IsNoSessionAt input place → ⊥
not_both input requests questions place s r =
    let some : AreSomeSession s.messages = (requests, questions, s.are_session) in
    elim (readings phase.Startup r.last s.are_all.0 input r.rest [] r.messages s.messages r.read s.are_all.1) [
      | inl a ↦ r.unended a.left_over (subst AreSomeSession (sym a.messages) some)
      | inr e ↦ elim e [
        | inl f ↦ not_further input place r s.messages f (session_begins s.messages some)
        | inr f ↦ none_further s.are_all.0 s.messages r.messages f
      ]
    ]
