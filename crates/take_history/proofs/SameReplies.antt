-- The bytes of two RESPONSEs of one reply with the same fields and data differ in byte 10 alone: both frames are their fields and data and nothing
-- else, and byte 10 has the retransmit bit. Assumes nothing.
use Rattle.ssp_frame.specs.declared.Frame.{Frame}
use Rattle.refusals.specs.declared.Refusal.{Refusal}
use Rattle.std.specs.Prelude.{Err, Ok, Result}
use Prim.Native.Nat.{ℕ}
use mathlib.Core.Bool.{Bool, true, false}
use mathlib.Core.List.{List, [], ◌∷◌, ◌++◌}
use mathlib.Core.Path.{◌≡◌, refl, sym, ap, subst, ◌∙◌}
use Rattle.laws.proofs.Bools.{never, by_test}
use Rattle.ssp_frame.specs.Response.{response_bytes, read_response}
use Rattle.ssp_frame.specs.declared.response.ResponseHead.{ResponseHead}
use Rattle.reply.specs.Rules.{unstarted}
use Rattle.reply.specs.Calls as plainly
use Rattle.reply.specs.History.{started, sent, acked, nacked, timed_out, was_lost, ended, is_refused, entry_of, Fate, Went, settle, note, view}
use Rattle.reply.specs.declared.Reply.{Reply}
use Rattle.take_history.specs.History.{blank_bits}
use Rattle.take_history.specs.Replies.{Call, plain, respond, plain_of, step_of, run, Typed, AllTyped, Response, Entry, found, response_by, entries_of, history, body_in, SameFields, SameBytes}
use Rattle.take_history.proofs.Responds as responding

-- a RESPONSE of the history, where the reader takes its bytes, is its fields and data alone
abbrev pub Read : Response → Type 0
Read x = (f : Frame ResponseHead) → read_response x.bytes ≡ Ok f → x.bytes ≡ response_bytes f.head (body_in f x.bytes)

abbrev pub AllRead : List (Went Response) → Type 0
AllRead [] = Unit {0}
AllRead (w ∷ ws) = Read w.response × AllRead ws

-- the frame that was read
frame_in : Result (Frame ResponseHead) Refusal → Frame ResponseHead → Frame ResponseHead
frame_in (Ok f) d = f
frame_in (Err k) d = d

is_read : Result (Frame ResponseHead) Refusal → Bool
is_read (Ok f) = true
is_read (Err k) = false

-- no frame has no bytes
unread : (x : Response) → x.bytes ≡ [] → Read x
unfolding read_response is_read
unread x none f e = absurd (never (ap (λ (b : List ℕ). is_read (read_response b)) (sym none) ∙ ap is_read e))

same_frames : (g h : ResponseHead) (a b : List ℕ) → SameFields g h → a ≡ b → blank_bits (response_bytes g a) ≡ blank_bits (response_bytes h b)
same_frames g h a b f e =
    λ i.
    blank_bits (response_bytes (record {
      destination = f.destination i;
      source = f.source i;
      retransmit = g.retransmit;
      tag = f.tag i;
      present = f.present i;
      status = f.status i;
    }) (e i))

same_bytes : (x y : Response) → Read x → Read y → SameBytes x.bytes y.bytes
same_bytes x y rx ry f g ef eg fields body =
    ap blank_bits (rx f ef) ∙ same_frames f.head g.head (body_in f x.bytes) (body_in g y.bytes) fields body ∙ ap blank_bits (sym (ry g eg))

-- of a RESPONSE that a call wrote
wrote_read : (s : Reply) (destination source tag present status : ℕ) (body out : List ℕ) → Typed (respond destination source tag present status body out)
    → responding.Passed s destination source tag present status body out → Read (response_by (respond destination source tag present status body out) s)
unfolding frame_in
wrote_read s destination source tag present status body out typed p =
    subst Read (sym (ap (λ (r : Result (Frame ResponseHead) Refusal). found r bytes) read))
    (λ f e. subst (λ (g : Frame ResponseHead). bytes ≡ response_bytes g.head (body_in g bytes)) (ap (λ (r : Result (Frame ResponseHead) Refusal). frame_in r frame) (sym read ∙ e))
    (p.bytes ∙ ap (response_bytes head) (sym (responding.body_read s destination source tag present status body out typed p))))
  where
    bytes : List ℕ
    bytes = responding.wrote s destination source tag present status body out

    head : ResponseHead
    head = responding.head s destination source tag present status body out

    frame : Frame ResponseHead
    frame = responding.frame s destination source tag present status body out

    read : read_response bytes ≡ Ok frame
    read = responding.read s destination source tag present status body out typed p

-- what an entry adds
Adds : Entry → Type 0
Adds (started r) = Unit {0}
Adds (sent x) = Read x
Adds acked = Unit {0}
Adds nacked = Unit {0}
Adds timed_out = Unit {0}
Adds was_lost = Unit {0}
Adds ended = Unit {0}

settles : (k : Fate) (v : List (Went Response)) → AllRead v → AllRead (settle k v)
settles k [] all = all
settles k (w ∷ ws) all = all

adds : (e : Entry) (v : List (Went Response)) → Adds e → AllRead v → AllRead (note e v)
unfolding Adds
adds (started r) v new all = tt
adds (sent x) v new all = (new, all)
adds acked v new all = settles _ v all
adds nacked v new all = settles _ v all
adds timed_out v new all = settles _ v all
adds was_lost v new all = settles _ v all
adds ended v new all = all

plain_adds : (c : plainly.Call) (x : Response) → Read x → Adds (entry_of c x)
unfolding Adds
plain_adds (plainly.Call.start r) x is = tt
plain_adds plainly.Call.respond x is = is
plain_adds plainly.Call.ack x is = tt
plain_adds plainly.Call.nak x is = tt
plain_adds plainly.Call.timeout x is = tt
plain_adds plainly.Call.lost x is = tt
plain_adds plainly.Call.nexus x is = tt
plain_adds plainly.Call.cancel x is = tt

module _ (s : Reply) (h : List Entry) (all : AllRead (view h)) where
  -- the RESPONSE that a call adds, where it isn't refused, is read
  by_response : (c : Call) → Read (response_by c s) → AllRead (view (entries_of c s ++ h))
  by_response c new =
      by_test (λ (es : List Entry). AllRead (view (es ++ h))) (is_refused (step_of c s).answer) (λ _. all)
      (λ _. adds (entry_of (plain_of c) (response_by c s)) (view h) (plain_adds (plain_of c) (response_by c s) new) all)

  pub reads_on : (c : Call) → Typed c → AllRead (view (entries_of c s ++ h))
  reads_on (plain c) typed = by_response (plain c) (unread (response_by (plain c) s) refl)
  reads_on (respond destination source tag present status body out) typed = by (responding.outcome s destination source tag present status body out)
    where
      c : Call
      c = respond destination source tag present status body out

      by : responding.Outcome s destination source tag present status body out → AllRead (view (entries_of c s ++ h))
      by (responding.kept r) = rw r.step all
      by (responding.passed p) = by_response c (wrote_read s destination source tag present status body out typed p)

all_read : (cs : List Call) (s : Reply) (h : List Entry) → AllTyped cs → AllRead (view h) → AllRead (view (history cs s h))
all_read [] s h typed all = all
all_read (c ∷ cs) s h typed all = all_read cs (step_of c s).state (entries_of c s ++ h) typed.1 (reads_on s h all c typed.0)

one_read : (ws : List (Went Response)) (w : Went Response) (rest : List (Went Response)) → AllRead (ws ++ (w ∷ rest)) → Read w.response
one_read [] w rest all = all.0
one_read (v ∷ ws) w rest all = one_read ws w rest all.1

-- over any calls from the state before START: the bytes of a RESPONSE beside those of any that went before it since START
pub same : (cs : List Call) (c : Call) → AllTyped cs → Typed c →
    let s = run cs unstarted in
    let h = history cs unstarted [] in
    (x : Response) → entries_of c s ≡ sent x ∷ [] → (newer older : List (Went Response)) (w : Went Response) → view h ≡ newer ++ (w ∷ older)
    → SameBytes x.bytes w.response.bytes
same cs c typed one x es newer older w is =
    let s = run cs unstarted in
    let h = history cs unstarted [] in
    let before = all_read cs unstarted [] typed tt in
    let after = subst (λ (fs : List Entry). AllRead (view (fs ++ h))) es (reads_on s h before c one) in
    same_bytes x w.response after.0 (one_read newer w older (subst AllRead is before))
