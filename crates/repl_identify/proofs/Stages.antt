-- The stages of a session: the messages lead from the first stage to the last exactly where they are a session.
use Rattle.std.proofs.Common.{◌≡◌, ℕ, ◌+◌, ◌≤◌, List, [], ◌∷◌, ◌++◌, length, get_or, codes, refl, sym, ap, subst, ◌∙◌, inl, inr, arith}
use Rattle.std.specs.List.{All}
use Rattle.std.proofs.lemmas.List.Elements.{All-nil, All-cons, All-head, All-tail}
use Rattle.repl_text.specs.Language.{Begins}
use Rattle.repl_message.specs.declared.startup.Pair.{Pair}
use Rattle.repl_message.specs.declared.startup.Startup.TheVariants as startup
use Rattle.repl_message.specs.declared.front.Front.TheVariants as front
use Rattle.repl_message.specs.declared.message.Message.{Message}
use Rattle.repl_message.specs.declared.message.Message.TheVariants as message
use Rattle.repl_identify.specs.declared.stage.Session.{Session}
use Rattle.repl_identify.specs.declared.stage.Stage.{Stage}
use Rattle.repl_identify.specs.declared.stage.Stage.TheVariants as stage
use Rattle.repl_identify.specs.Session.{IsOption, IsReplication, IsRequest, IsQuestion, AreSession, AreSomeSession}
use Rattle.repl_identify.specs.Stages.{asks, IsStart, IsEnd, Goes, Lead}

-- ---- steps

pub lead_then : (a b c : Stage) (ms ns : List Message) → Lead a ms b → Lead b ns c → Lead a (ms ++ ns) c
lead_then a b c [] ns x y = subst (λ (s : Stage). Lead s ns c) x y
lead_then a b c (m ∷ ms) ns x y = (x.0, x.1, lead_then x.0 b c ms ns x.2 y)

pub lead_one : (a b : Stage) (m : Message) → Goes a m b → Lead a (m ∷ []) b
lead_one a b m x = (b, x, refl)

-- what is between
pub lead_between : (a c : Stage) (ms ns : List Message) → Lead a (ms ++ ns) c → (b : Stage) × Lead a ms b × Lead b ns c
lead_between a c [] ns x = (a, refl, x)
lead_between a c (m ∷ ms) ns x =
    let r = lead_between x.0 c ms ns x.2 in
    (r.0, (x.0, x.1, r.1), r.2)

request_or_start : (m : Message) → IsRequest m → IsStart m → ⊥
request_or_start m (inl e) s = let f = s.1 in absurd cc
request_or_start m (inr e) s = let f = s.1 in absurd cc

question_or_end : (m : Message) → IsQuestion m → IsEnd m → ⊥
question_or_end m q e = let f = q.1 in absurd cc

goes_one : (a b c : Stage) (m : Message) → Goes a m b → Goes a m c → b ≡ c
goes_one (stage.Starting n) b c m (inl x) (inl y) = x.1 ∙ sym y.1
goes_one (stage.Starting n) b c m (inl x) (inr y) = absurd (request_or_start m x.0 y.0)
goes_one (stage.Starting n) b c m (inr x) (inl y) = absurd (request_or_start m y.0 x.0)
goes_one (stage.Starting n) b c m (inr x) (inr y) = x.1 ∙ sym y.1
goes_one (stage.Asking s) b c m (inl x) (inl y) = x.1 ∙ sym y.1
goes_one (stage.Asking s) b c m (inl x) (inr y) = absurd (question_or_end m x.0 y.0)
goes_one (stage.Asking s) b c m (inr x) (inl y) = absurd (question_or_end m y.0 x.0)
goes_one (stage.Asking s) b c m (inr x) (inr y) = x.1 ∙ sym y.1
goes_one (stage.Over s) b c m x y = absurd x

pub lead_to_one : (a b c : Stage) (ms : List Message) → Lead a ms b → Lead a ms c → b ≡ c
lead_to_one a b c [] x y = x ∙ sym y
lead_to_one a b c (m ∷ ms) x y =
    lead_to_one x.0 b c ms x.2 (subst (λ (s : Stage). Lead s ms c) (sym (goes_one a x.0 y.0 m x.1 y.1)) y.2)

-- a message counts once at most
pub goes_few : (a b : Stage) (m : Message) → Goes a m b → asks b ≤ asks a + 1
goes_few (stage.Starting n) b m (inl x) = rw x.1 (omega arith)
goes_few (stage.Starting n) b m (inr x) = rw x.1 (omega arith)
goes_few (stage.Asking s) b m (inl x) = rw x.1 (omega arith)
goes_few (stage.Asking s) b m (inr x) = rw x.1 (omega arith)
goes_few (stage.Over s) b m x = absurd x

-- ---- from the first stage to the last

abbrev pub end : Message
end = message.Front front.Terminate

abbrev pub start : List Pair → Message
start pairs = message.Startup (startup.Params pairs)

abbrev pub asking : ℕ → ℕ → Stage
asking requests questions = stage.Asking (record { requests = requests; questions = questions })

abbrev pub over : ℕ → ℕ → Stage
over requests questions = stage.Over (record { requests = requests; questions = questions })

-- questions and the end
record Asked (a s : Session) (ms : List Message) : Type 0 where
  questioned : List Message
  parts : ms ≡ questioned ++ end ∷ []
  are : All IsQuestion questioned
  requests : s.requests ≡ a.requests
  questions : s.questions ≡ a.questions + length questioned

asked_end : (ms : List Message) (m : Message) (a s : Session) → IsEnd m → Lead (stage.Over a) ms (stage.Over s) → Asked a s (m ∷ ms)
asked_end [] m a s is l =
    let same : s ≡ a = cc in
    record {
      questioned = [];
      parts = ap (λ (x : Message). x ∷ []) is;
      are = All-nil IsQuestion;
      requests = ap (λ (x : Session). x.requests) same;
      questions = omega (arith, ap (λ (x : Session). x.questions) same);
    }
asked_end (n ∷ ms) m a s is l = absurd l.1

asked : (ms : List Message) (a s : Session) → Lead (stage.Asking a) ms (stage.Over s) → Asked a s ms
asked [] a s l = absurd cc
asked (m ∷ ms) a s l = elim l.1 [
  | inl q ↦
      let r = asked ms (record { requests = a.requests; questions = a.questions + 1 }) s
      (subst (λ (x : Stage). Lead x ms (stage.Over s)) q.1 l.2) in
      record {
        questioned = m ∷ r.questioned;
        parts = ap (λ (x : List Message). m ∷ x) r.parts;
        are = All-cons IsQuestion m r.questioned q.0 r.are;
        requests = r.requests;
        questions = omega (arith, r.questions);
      }
  | inr e ↦ asked_end ms m a s e.0 (subst (λ (x : Stage). Lead x ms (stage.Over s)) e.1 l.2)
]

-- requests, the startup packet, questions, and the end
record Started (n : ℕ) (s : Session) (ms : List Message) : Type 0 where
  requested : List Message
  pairs : List Pair
  questioned : List Message
  parts : ms ≡ requested ++ start pairs ∷ questioned ++ end ∷ []
  are_requests : All IsRequest requested
  starts : IsReplication pairs
  are_questions : All IsQuestion questioned
  requests : s.requests ≡ n + length requested
  questions : s.questions ≡ length questioned

started : (ms : List Message) (n : ℕ) (s : Session) → Lead (stage.Starting n) ms (stage.Over s) → Started n s ms
started [] n s l = absurd cc
started (m ∷ ms) n s l = elim l.1 [
  | inl q ↦
      let r = started ms (n + 1) s (subst (λ (x : Stage). Lead x ms (stage.Over s)) q.1 l.2) in
      record {
        requested = m ∷ r.requested;
        pairs = r.pairs;
        questioned = r.questioned;
        parts = ap (λ (x : List Message). m ∷ x) r.parts;
        are_requests = All-cons IsRequest m r.requested q.0 r.are_requests;
        starts = r.starts;
        are_questions = r.are_questions;
        requests = omega (arith, r.requests);
        questions = r.questions;
      }
  | inr p ↦
      let r = asked ms (record { requests = n; questions = 0 }) s (subst (λ (x : Stage). Lead x ms (stage.Over s)) p.1 l.2) in
      record {
        requested = [];
        pairs = p.0.0;
        questioned = r.questioned;
        parts = ap (λ (x : Message). x ∷ ms) p.0.1 ∙ ap (λ (x : List Message). start p.0.0 ∷ x) r.parts;
        are_requests = All-nil IsRequest;
        starts = p.0.2;
        are_questions = r.are;
        requests = omega (arith, r.requests);
        questions = omega (arith, r.questions);
      }
]

pub session_from : (ms : List Message) (s : Session) → Lead (stage.Starting 0) ms (stage.Over s) → AreSession ms s.requests s.questions
session_from ms s l =
    let r = started ms 0 s l in
    record {
      asked = r.requested;
      pairs = r.pairs;
      questioned = r.questioned;
      parts = r.parts;
      are_requests = r.are_requests;
      starts = r.starts;
      are_questions = r.are_questions;
      requests_are = omega (arith, r.requests);
      questions_are = r.questions;
    }

requests_lead : (ms : List Message) (n k : ℕ) → All IsRequest ms → k ≡ n + length ms → Lead (stage.Starting n) ms (stage.Starting k)
requests_lead [] n k all e = ap (λ (x : ℕ). stage.Starting x) (omega (arith, e))
requests_lead (m ∷ ms) n k all e = (
  stage.Starting (n + 1),
  inl (All-head IsRequest m ms all, refl),
  requests_lead ms (n + 1) k (All-tail IsRequest m ms all)
      (omega (arith, e)),
)

questions_lead : (ms : List Message) (n a k : ℕ) → All IsQuestion ms → k ≡ a + length ms → Lead (asking n a) ms (asking n k)
questions_lead [] n a k all e = ap (λ (x : ℕ). asking n x) (omega (arith, e))
questions_lead (m ∷ ms) n a k all e = (
  asking n (a + 1),
  inl (All-head IsQuestion m ms all, refl),
  questions_lead ms n (a + 1) k (All-tail IsQuestion m ms all)
      (omega (arith, e)),
)

pub session_leads : (ms : List Message) (requests questions : ℕ) → AreSession ms requests questions
    → Lead (stage.Starting 0) ms (over requests questions)
session_leads ms requests questions s =
    let first = requests_lead s.asked 0 requests s.are_requests (omega (arith, s.requests_are)) in
    let third = questions_lead s.questioned requests 0 questions s.are_questions (omega (arith, s.questions_are)) in
    let second : Goes (stage.Starting requests) (start s.pairs) (asking requests 0) = inr ((s.pairs, refl, s.starts), refl) in
    let last : Goes (asking requests questions) end (over requests questions) = inr (refl, refl) in
    let middle = lead_then (stage.Starting 0) (stage.Starting requests) (asking requests questions) s.asked (start s.pairs ∷ s.questioned)
    first (asking requests 0, second, third) in
    let all = lead_then (stage.Starting 0) (asking requests questions) (over requests questions) (s.asked ++ start s.pairs ∷ s.questioned)
    (end ∷ []) middle (lead_one (asking requests questions) (over requests questions) end last) in
    subst (λ (x : List Message). Lead (stage.Starting 0) x (over requests questions)) (sym s.parts) all

-- ---- each stage goes on to the last

user_pair : Pair
user_pair = record { name = codes "user"; value = [] }

replication_pair : Pair
replication_pair = record { name = codes "replication"; value = codes "true" }

some_pairs : List Pair
some_pairs = user_pair ∷ replication_pair ∷ []

no_option_user : IsOption (codes "user") → ⊥
no_option_user o = omega (arith, ap (λ (name : List ℕ). get_or name 0 0) o.1)

no_option_replication : IsOption (codes "replication") → ⊥
no_option_replication o = omega (arith, ap (λ (name : List ℕ). get_or name 0 0) o.1)

some_replication : IsReplication some_pairs
unfolding some_pairs user_pair replication_pair
some_replication =
    let plain : Pair → Type 0 = λ (p : Pair). IsOption p.name → ⊥ in
    record {
      user = (0, user_pair, omega arith, refl, refl);
      physical = record {
        value = codes "true";
        counts = record {
          before = user_pair ∷ [];
          after = [];
          parts = refl;
          others = All-nil (λ (p : Pair). p.name ≡ codes "replication" → ⊥);
        };
        asks = inl refl;
      };
      plain = All-cons plain user_pair (replication_pair ∷ []) no_option_user
          (All-cons plain replication_pair [] no_option_replication (All-nil plain));
    }

to_end : (a : Stage) → (more : List Message) × (s : Session) × Lead a more (stage.Over s)
to_end (stage.Over s) = ([], s, refl)
to_end (stage.Asking s) = (end ∷ [], s, (stage.Over s, inr (refl, refl), refl))
to_end (stage.Starting n) = (
  start some_pairs ∷ end ∷ [],
  record { requests = n; questions = 0 },
  (asking n 0, inr ((some_pairs, refl, some_replication), refl), (over n 0, inr (refl, refl), refl)),
)

pub stage_begins : (ms : List Message) (a : Stage) → Lead (stage.Starting 0) ms a → Begins AreSomeSession ms
stage_begins ms a l =
    let g = to_end a in
    (g.0, (g.1.requests, g.1.questions, session_from (ms ++ g.0) g.1 (lead_then (stage.Starting 0) a (stage.Over g.1) ms g.0 l g.2)))

-- where a session goes on with a message, its stage goes on too
pub begins_goes : (ms : List Message) (m : Message) (a : Stage) → Lead (stage.Starting 0) ms a → Begins AreSomeSession (ms ++ m ∷ [])
    → (next : Stage) × Goes a m next
begins_goes ms m a l b =
    let s = b.1 in
    let whole = session_leads ((ms ++ m ∷ []) ++ b.0) s.0 s.1 s.2 in
    let front = lead_between (stage.Starting 0) (over s.0 s.1) (ms ++ m ∷ []) b.0 whole in
    let step = lead_between (stage.Starting 0) front.0 ms (m ∷ []) front.1 in
    let same : step.0 ≡ a = lead_to_one (stage.Starting 0) step.0 a ms step.1 l in
    (step.2.0, subst (λ (x : Stage). Goes x m step.2.0) same step.2.1)

-- a session is over
pub session_over : (ms : List Message) (a : Stage) → Lead (stage.Starting 0) ms a → AreSomeSession ms → (s : Session) × (a ≡ stage.Over s)
session_over ms a l s =
    (record { requests = s.0; questions = s.1 }, lead_to_one (stage.Starting 0) a (over s.0 s.1) ms l (session_leads ms s.0 s.1 s.2))
