use Rattle.report.proofs.line.members_of.Goals as goal

pub returns-in-Nucleolus : goal.returns-in-Nucleolus
returns-in-Nucleolus c = rw c.in-Nucleolus.is c.nucleolus_members.ensures

pub returns-in-Blocked : goal.returns-in-Blocked
returns-in-Blocked c = rw c.in-Blocked.is c.blocked_members.ensures

pub returns-in-CorePoint : goal.returns-in-CorePoint
returns-in-CorePoint c = rw c.in-CorePoint.is c.core_point_members.ensures

pub returns-in-Shapley : goal.returns-in-Shapley
returns-in-Shapley c = rw c.in-Shapley.is c.shapley_members.ensures

pub returns-in-Bird : goal.returns-in-Bird
returns-in-Bird c = rw c.in-Bird.is c.bird_members.ensures

pub returns-in-Convex : goal.returns-in-Convex
returns-in-Convex c = rw c.in-Convex.is c.convex_members.ensures

pub returns-in-Matching : goal.returns-in-Matching
returns-in-Matching c = rw c.in-Matching.is c.matching_members.ensures

pub returns-in-Verdict : goal.returns-in-Verdict
returns-in-Verdict c = rw c.in-Verdict.is c.verdict_members.ensures

pub returns-in-Usage : goal.returns-in-Usage
returns-in-Usage c = rw c.in-Usage.is c.usage_members.ensures

pub returns-in-Refused : goal.returns-in-Refused
returns-in-Refused c = rw c.in-Refused.is c.refused_members.ensures

pub returns-in-Summary : goal.returns-in-Summary
returns-in-Summary c = rw c.in-Summary.is c.summary_members.ensures

pub returns-in-NotPrekernel : goal.returns-in-NotPrekernel
returns-in-NotPrekernel c = rw c.in-NotPrekernel.is c.not_prekernel_members.ensures
