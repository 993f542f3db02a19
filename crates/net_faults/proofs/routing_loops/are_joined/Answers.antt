use Rattle.net_faults.proofs.routing_loops.are_joined.Goals as goal
