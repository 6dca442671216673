mod JoinLaws
