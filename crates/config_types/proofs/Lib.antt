mod AskableWorked
