use Rattle.clerk_calls.proofs.OfficeLemmas.{then-listed}
use Rattle.clerk_calls.proofs.session.serve_then_enquire.Goals as goal

-- the desk's list is a log of the points that it learnt
pub returns : goal.returns
returns g c =
    then-listed g.N.Named.opened _ c.args.card c.enquire-enquiry.result c.enquire-enquiry.ensures.answer
    c.enquire-enquiry.ensures.begins
    c.serve_from_log-served.ensures.session
