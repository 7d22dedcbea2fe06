mod Executing
