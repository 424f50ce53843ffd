-- A touch that is settled where nothing goes wrong.
use Rattle.std.proofs.Common.{◌≡◌, inl, inr, ℕ, true, false, List, [], ◌++◌, length, take, refl, sym, ap, ◌∙◌, subst}
use Rattle.std.proofs.Common.{append-nil, Some, Result}
use Rattle.std.specs.Prelude.{IsOk}
use Rattle.oyster_account.specs.declared.touch.Touch.{Touch}
use Rattle.oyster_account.specs.declared.reply.Reply.{Reply}
use Rattle.reply_book.specs.declared.book.Book.{Book}
use Rattle.reply_book.proofs.PlaceLemmas.{take-front}
use Rattle.gate_session.specs.declared.request.Request.{Request}
use Rattle.gate_session.specs.declared.answer.Answer.{Answer}
use Rattle.gate_session.specs.declared.answer.Answer.TheVariants as answers
use Rattle.gate_session.specs.declared.answer.FaultCode.{FaultCode}
use Rattle.gate_session.specs.declared.answer.FaultCode.TheVariants.{BadFrame, Conflict, Halted}
use Rattle.gate_session.specs.declared.answer.FaultCode.TheVariants.{Memory, Full, UnknownTable, NotAllowed}
use Rattle.gate_client.specs.declared.fault.HearFault.{HearFault}
use Rattle.gate_law.specs.Steps.{is_reply}
use Rattle.gate_law.specs.BookClerk.{IsGivenBy, IsRefusedFor, HasCause}
use Rattle.gate_law.specs.AtOnce.{IsHeard, DoesReply, IsReady}

-- what was written over the first bytes of some is what stands there
pub written_whole : (out frame rest : List ℕ) (n : ℕ) → out ≡ frame ++ rest → n ≡ length frame
    → take n out ≡ frame ++ []
written_whole out frame rest n is long =
    ap (λ (k : ℕ). take k out) long ∙ ap (take (length frame)) is ∙ take-front frame rest ∙ sym (append-nil frame)

-- where the clerk replies, the reply is heard
pub heard-ok : {C : Type 0} (gives : C → Request → Answer → C → Type 0) (touch : Touch) (old new : C)
    (result : Result Reply HearFault) → IsHeard gives touch old new result → DoesReply gives old touch → IsOk result
heard-ok gives touch old new result heard does =
    let said = does heard.answer new heard.given in
    subst (λ (r : Result Reply HearFault). IsOk r) (sym (heard.reply said.0 said.1)) refl

-- one request is read
pub one-read : (a b : Request) → Some a ≡ Some b → a ≡ b
one-read a b is = cc

-- nothing that refuses a touch is so of a book that is ready
not-refused : (book : Book) (touch : Touch) → IsReady book touch → (cause : FaultCode) → IsRefusedFor book touch cause
    → ⊥
not-refused book touch ready Conflict is = ready.no_other is
not-refused book touch ready UnknownTable is =
    let no : true ≡ false = sym (ready.known is.0) ∙ is.1 in absurd cc
not-refused book touch ready Full is = ready.not_full is.0 is.1
not-refused book touch ready Memory is = is.1 (ready.room is.0)
not-refused book touch ready Halted is = is
not-refused book touch ready NotAllowed is = is
not-refused book touch ready BadFrame is = is

-- an answer that is no reply is a fault, for its cause
no-fault : (book : Book) (touch : Touch) → IsReady book touch → (answer : Answer) → HasCause book touch answer
    → is_reply answer ≡ false → ⊥
no-fault book touch ready (answers.Reply gate number reply) cause is = let no : true ≡ false = is in absurd cc
no-fault book touch ready (answers.Fault code gate number) cause is =
    not-refused book touch ready cause.0 cause.2
no-fault book touch ready (answers.Holding view front) cause is = cause

-- so it replies
pub book-replies : (book : Book) (touch : Touch) → IsReady book touch → DoesReply IsGivenBy book touch
book-replies book touch ready answer new given =
    elim given.does [
      | inl is ↦ (is.reply, is.is)
      | inr rest ↦ elim rest [
        | inl is ↦ (is.reply, is.is)
        | inr is ↦ absurd (no-fault book touch ready answer given.tells is.none)
      ]
    ]
