use Rattle.job_leases.specs.Jobs.{newly_open}
use Rattle.job_leases.proofs.Numbers.{distinct-push, new-none}
use Rattle.job_leases.proofs.leases.Leases.add.Goals as goal

pub invariant_of-self-2 : goal.invariant_of-self-2
invariant_of-self-2 c =
    let jobs = c.self.inside.jobs.items in
    rw c.in_ok-push.ensures.items (distinct-push jobs (newly_open c.args.job) c.self.invariant (new-none c.args.job jobs (rw c.self.view_is c.requires)))
