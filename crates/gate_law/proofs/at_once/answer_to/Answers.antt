use Rattle.std.proofs.Common.{sym, ◌∙◌, append-nil, subst}
use Rattle.gate_session.specs.declared.request.Request.{Request}
use Rattle.gate_session.specs.declared.request.Request.TheVariants as requests
use Rattle.gate_client.specs.Heard.{frame_of}
use Rattle.gate_law.proofs.AtOnceLemmas.{one-read}
use Rattle.gate_law.proofs.at_once.answer_to.Goals as goal

-- a touch's frame is read
pub returns-in_default : goal.returns-in_default
returns-in_default g c touch fits is =
    absurd (c.in_default.not-Some _
    (c.read_whole.ensures.again (requests.Touch touch) (record {
      fits = fits;
      parts = is ∙ sym (append-nil (frame_of touch));
    })))

-- it is the touch that is handed over
pub returns : goal.returns
returns g c touch fits is =
    let again = c.read_whole.ensures.again (requests.Touch touch) (record {
      fits = fits;
      parts = is ∙ sym (append-nil (frame_of touch));
    }) in
    subst (λ (r : Request). g.C.Clerk.gives c.args.clerk.now r c.hand_over.result c.hand_over.new.clerk)
    (one-read c.in-Some.request (requests.Touch touch) (sym c.in-Some.is ∙ again)) c.hand_over.ensures
