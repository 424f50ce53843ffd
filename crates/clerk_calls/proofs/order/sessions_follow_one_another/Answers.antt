use Rattle.clerk_calls.proofs.AnsweredLemmas.{sessions-follow}
use Rattle.clerk_calls.proofs.order.sessions_follow_one_another.Goals as goal

pub returns : goal.returns
returns c = sessions-follow
